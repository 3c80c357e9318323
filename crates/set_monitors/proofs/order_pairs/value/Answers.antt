use Rattle.std.proofs.Common.{◌≡◌, ◌<◌, ◌∙◌, Some, get_or, length, sym, ap, arith}
use Rattle.std.specs.Option.{option_map_or}
use Rattle.std.proofs.lemmas.Option.{get_or_from_slice_get, slice_get-get_or}
use Rattle.khe_instance.specs.declared.rules.EventPair.{EventPair}
use Rattle.set_monitors.specs.OrderPairs.{gap, no_edges, pair_at}
use Rattle.set_monitors.proofs.OrderPairLaws.{pair_within}
use Rattle.set_monitors.proofs.order_pairs.value.Goals as goal

pub returns-clause-value : goal.returns-clause-value
returns-clause-value c =
    let p = c.args.inst.now in
    let edges = c.args.edges.now in
    let q = c.in-Some.pair in
    let at : pair_at p c.args.monitor ≡ Some q = sym c.pair_of.ensures ∙ c.in-Some.is in
    let within = pair_within p c.args.monitor q c.facts.ensures c.requires.monitor at in
    let r = c.requires.rows in
    let w0 = within.0 in
    let w1 = within.1 in
    let l0 : q.first.0 < length edges = omega (arith, r, w0) in
    let l1 : q.second.0 < length edges = omega (arith, r, w1) in
    let a = get_or_from_slice_get edges q.first.0 c.index-edges-pair.result no_edges
    (slice_get-get_or edges q.first.0 c.index-edges-pair.result l0 ∙ ap Some (sym c.index-edges-pair.is)) in
    let b = get_or_from_slice_get edges q.second.0 c.index-edges-pair-2.result no_edges
    (slice_get-get_or edges q.second.0 c.index-edges-pair-2.result l1 ∙ ap Some (sym c.index-edges-pair-2.is)) in
    c.gap.ensures.value ∙ sym ((λ i. gap (a i) (b i) q))
    ∙ sym (ap (λ o. option_map_or (λ (q : EventPair). gap (get_or edges q.first.0 no_edges)
    (get_or edges q.second.0 no_edges) q) o 0) at)
