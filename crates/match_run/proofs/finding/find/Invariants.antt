-- The steps go to the ledger of the blank.
use Rattle.match_run.proofs.finding.find.Given as goal

abbrev pub ghosts-find_on : goal.ghosts-find_on
ghosts-find_on g a = record { name = a.blank.name; parts = a.blank.parts }
