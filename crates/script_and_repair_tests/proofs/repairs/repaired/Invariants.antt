-- The steps go to the ledger of the blank.
use Rattle.script_and_repair_tests.proofs.repairs.repaired.Given as goal

abbrev pub ghosts-run_case : goal.ghosts-run_case
ghosts-run_case g a = record { name = a.blank.name; parts = a.blank.parts }
