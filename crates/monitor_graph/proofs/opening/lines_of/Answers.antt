use Rattle.std.proofs.Common.{◌++◌, ◌∷◌, [], true, map, take, sym, ap, ◌∙◌, arith}
use Rattle.std.proofs.lemmas.List.{take_more, map-append}
use Rattle.std.proofs.lemmas.Option.{get_or_from_slice_get}
use Rattle.monitor_graph.specs.Opened.{line_of}
use Rattle.monitor_graph.proofs.OpenLaws.{line_there, constraint_known}
use Rattle.monitor_graph.proofs.opening.lines_of.Goals as goal

pub constraint-constraint-requires : goal.constraint-constraint-requires
constraint-constraint-requires c = constraint_known c.args.inst.now c.monitor.result c.loop-number.number
    c.facts.ensures c.monitor.ensures

pub loop-number-preserved : goal.loop-number-preserved
loop-number-preserved c =
    let p = c.args.inst.now in
    let n = c.loop-number.number in
    let m = c.monitor.result in
    let there = get_or_from_slice_get p.monitors n m m c.monitor.ensures in
    c.in_ok-push.ensures.items
    ∙ (λ i. c.loop-number.invariant i ++ sym (line_there p true m c.constraint-constraint.result.now
    c.constraint-constraint.ensures) i ∷ [])
    ∙ sym (ap (map (line_of p true)) (take_more p.monitors n m (omega arith)
    ∙ ap (λ x. take n p.monitors ++ x ∷ []) there) ∙ map-append (line_of p true) (take n p.monitors) (m ∷ []))
