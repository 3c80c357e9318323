use Rattle.script_run.proofs.commands.answer_command.Given as goal

abbrev pub ghosts-answer_counting : goal.ghosts-answer_counting
ghosts-answer_counting g a = record { name = a.blank.name; parts = a.blank.parts }
