-- The steps go to the ledger of the blank.
use Rattle.calling_examples.proofs.editing.assigned_totals.Given as goal

abbrev pub ghosts-assign_on : goal.ghosts-assign_on
ghosts-assign_on g a = record { name = a.blank.name; parts = a.blank.parts }
