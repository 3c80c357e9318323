-- The copy and what is left are the whole list.
use Rattle.std.proofs.Common.{◌≡◌, take}
use Rattle.solve_board.proofs.steps.copied_list.Given as goal

abbrev pub invariant-loop-number : goal.invariant-loop-number
invariant-loop-number l = l.copy ≡ take l.number-index l.number-items
