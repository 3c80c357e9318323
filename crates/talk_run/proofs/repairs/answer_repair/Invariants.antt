use Rattle.talk_run.proofs.repairs.answer_repair.Given as goal

abbrev pub ghosts-repair_counting : goal.ghosts-repair_counting
ghosts-repair_counting g a = record { name = a.blank.name; parts = a.blank.parts }
