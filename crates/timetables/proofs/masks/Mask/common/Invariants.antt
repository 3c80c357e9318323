-- The count so far is that of the words so far.
use Rattle.std.proofs.Common.{◌≡◌, ◌*◌, ◌&&◌}
use Rattle.khe_base.specs.Bits.{is_set}
use Rattle.khe_base.specs.Busy.{count_below}
use Rattle.timetables.proofs.masks.Mask.common.Given as goal

abbrev pub invariant-loop-k : goal.invariant-loop-k
invariant-loop-k l = l.count ≡ count_below (λ t. is_set l.self-inside.words.items t && is_set l.row t) (64 * l.k)
