use Rattle.std.proofs.Common.{arith, ◌-◌}
use Rattle.std.specs.Int.{w64, trailing_zeros, leading_zeros}
use Rattle.timetables.proofs.CountsLemmas.{count_ones-part}
use Rattle.timetables.proofs.masks.widened.Goals as goal

pub overflow_add-before_last : goal.overflow_add-before_last
overflow_add-before_last c = let l = count_ones-part c.args.free (63 - leading_zeros w64 c.args.busy) in
    omega (arith, l, c.ones_below.ensures)

pub overflow_add-before_first : goal.overflow_add-before_first
overflow_add-before_first c = let l = count_ones-part c.args.free (trailing_zeros w64 c.args.busy) in
    omega (arith, l, c.ones_below-in-None.ensures)
