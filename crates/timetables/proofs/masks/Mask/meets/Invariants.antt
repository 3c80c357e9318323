-- No word so far has a common bit.
use Rattle.std.proofs.Common.{◌≡◌, ◌*◌, ◌&&◌}
use Rattle.khe_base.specs.Bits.{is_set}
use Rattle.khe_base.specs.Busy.{count_below}
use Rattle.timetables.proofs.masks.Mask.meets.Given as goal

abbrev pub invariant-loop-k : goal.invariant-loop-k
invariant-loop-k l = count_below (λ t. is_set l.self-inside.words.items t && is_set l.row t) (64 * l.k) ≡ 0
