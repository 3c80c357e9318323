-- The steps go to the ledger of the blank.
use Rattle.construct_run.proofs.building.build.Given as goal

abbrev pub ghosts-build_with : goal.ghosts-build_with
ghosts-build_with g a = record { name = a.blank.name; parts = a.blank.parts }
