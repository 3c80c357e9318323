use Rattle.khe_engine.proofs.shortages.shortage_in.Given as goal

abbrev pub ghosts-demands_of : goal.ghosts-demands_of
ghosts-demands_of a = record { name = a.blank.name; parts = a.blank.parts }
