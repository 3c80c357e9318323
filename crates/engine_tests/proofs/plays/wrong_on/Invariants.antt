use Rattle.engine_tests.proofs.plays.wrong_on.Given as goal

abbrev pub ghosts-wrong_of : goal.ghosts-wrong_of
ghosts-wrong_of a = record { name = a.blank.name; parts = a.blank.parts }
