use Rattle.std.proofs.Common.{[], ◌∷◌, length, arith}
use Rattle.std.specs.List.{range_with_len}
use Rattle.std.proofs.lemmas.List.Sums.{count_by-le-length}
use Rattle.std.proofs.lemmas.List.FromFn.{length-range_with_len}
use Rattle.khe_base.specs.Bits.{is_set}
use Rattle.khe_base.specs.Busy.{is_idle_time}
use Rattle.khe_base.specs.IdSet.{has_member}
use Rattle.resource_monitors.proofs.row_measures.idle_in.Goals as goal

pub returns-clause-small : goal.returns-clause-small
returns-clause-small c =
    let set = c.args.mask.now in
    let l = count_by-le-length (is_idle_time (has_member set) (is_set (c.args.word ∷ [])) (length set))
    (range_with_len 0 (length set)) in
    let e = length-range_with_len 0 (length set) in
    let v = c.idle.ensures in
    omega (arith, l, e, v)
