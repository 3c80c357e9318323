-- The steps go to the ledger of the blank.
use Rattle.repair_run.proofs.mending.mend.Given as goal

abbrev pub ghosts-mend_on : goal.ghosts-mend_on
ghosts-mend_on g a = record { name = a.blank.name; parts = a.blank.parts }
