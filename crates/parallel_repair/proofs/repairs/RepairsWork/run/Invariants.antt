-- The steps go to the ledger of the blank.
use Rattle.parallel_repair.proofs.repairs.RepairsWork.run.Given as goal

abbrev pub ghosts-run_job : goal.ghosts-run_job
ghosts-run_job g a = record { name = a.blank.name; parts = a.blank.parts }
