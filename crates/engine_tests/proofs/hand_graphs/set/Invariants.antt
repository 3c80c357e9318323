-- The step goes to the ledger of the blank.
use Rattle.engine_tests.proofs.hand_graphs.set.Given as goal

abbrev pub ghosts-set_counting : goal.ghosts-set_counting
ghosts-set_counting a = record { name = a.blank.name; parts = a.blank.parts }
