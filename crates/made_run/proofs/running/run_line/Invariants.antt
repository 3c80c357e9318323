-- The steps go to the ledger of the blank.
use Rattle.made_run.proofs.running.run_line.Given as goal

abbrev pub ghosts-run_on : goal.ghosts-run_on
ghosts-run_on g a = record { name = a.blank.name; parts = a.blank.parts }
