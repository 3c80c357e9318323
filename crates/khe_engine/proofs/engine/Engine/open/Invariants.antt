use Rattle.khe_engine.proofs.engine.Engine.open.Given as goal

abbrev pub ghosts-listen : goal.ghosts-listen
ghosts-listen g a = record { name = a.blank.name; parts = a.blank.parts }
