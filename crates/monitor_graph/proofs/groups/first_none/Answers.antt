use Rattle.std.proofs.Common.{◌≡◌, None, length, is_none, sym, ap, ◌∙◌, arith}
use Rattle.std.specs.List.{position_or_len}
use Rattle.monitor_graph.specs.Seating.{Sitting, groups_on}
use Rattle.monitor_graph.proofs.BenchLaws.{first_free, none_is}
use Rattle.monitor_graph.proofs.groups.first_none.Goals as goal

pub returns-then-not-is_taken : goal.returns-then-not-is_taken
returns-then-not-is_taken c =
    let bs = c.args.benches.now in
    let k = c.loop-place.place in
    let s = c.index-benches-place.result in (
      sym (first_free bs k s (omega arith) (λ j l. c.loop-place.invariant j s l)
          (λ l. ap (λ (x : Sitting). is_none x.group) (sym c.index-benches-place.is)
          ∙ none_is s.group (sym c.is_taken.ensures ∙ c.if-not-is_taken.true))),
      omega arith,
    )

pub returns : goal.returns
returns c =
    let bs = c.args.benches.now in
    let s : Sitting = record { group = None; seats = 0 } in
    let e : position_or_len is_none (groups_on bs) ≡ length bs =
    first_free bs (length bs) s (omega arith) (λ j l. c.loop-place.invariant j s (omega (arith, l)))
    (λ l. absurd (omega (arith, l))) in
    omega (arith, e)
