-- The copy and what is left are the whole list.
use Rattle.std.proofs.Common.{◌≡◌, take}
use Rattle.solve_board.proofs.steps.copied.Given as goal

abbrev pub invariant-loop-list : goal.invariant-loop-list
invariant-loop-list l = l.copy ≡ take l.list-index l.list-items
