use Rattle.std.proofs.Common.{◌+◌, ◌-◌, ◌%◌, ◌/◌, ◌^◌, ◌∙◌, ap, count_ones, bit_and, arith}
use Rattle.std.specs.Int.{w64, trailing_zeros, leading_zeros}
use Rattle.std.proofs.lemmas.Nat.{and_mask, one_shl}
use Rattle.timetables.proofs.CountsLemmas.{count_ones-split}
use Rattle.timetables.proofs.Spans.{low_high}
use Rattle.timetables.proofs.masks.idle_in_word.Goals as goal

pub returns-clause-between : goal.returns-clause-between
returns-clause-between c pos =
    let t = trailing_zeros w64 c.args.busy in
    let l = 63 - leading_zeros w64 c.args.busy in
    let mask =
    ap (λ x. bit_and c.args.free (x - 1)) (one_shl l 64 (omega arith)) ∙ and_mask c.args.free l in
    ap (λ x. count_ones (c.args.free % 2 ^ t) + count_ones (x / 2 ^ t)) mask
    ∙ count_ones-split c.args.free t l (low_high c.args.busy pos (omega arith))
