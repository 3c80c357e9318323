use Rattle.std.proofs.Common.{◌<◌, Some, List, length, get_or, subst, ap, ◌∙◌, arith}
use Rattle.std.specs.List.{sum_by}
use Rattle.std.proofs.lemmas.Option.{slice_get_within}
use Rattle.khe_base.specs.declared.numbers.MonitorId.{MonitorId}
use Rattle.monitor_graph.specs.GroupCosts.{child_cost}
use Rattle.monitor_graph.specs.Groups.{children_at}
use Rattle.monitor_graph.specs.Lines.{hard_cost, soft_cost}
use Rattle.monitor_graph.proofs.GroupCostLaws.{renewed_costs}
use Rattle.monitor_graph.proofs.SeatLaws.{child_known, group_is}
use Rattle.monitor_graph.proofs.group_costs.GroupCosts.renew.Goals as goal

pub totals_among-totals-requires-clause-known : goal.totals_among-totals-requires-clause-known
totals_among-totals-requires-clause-known c k d l =
    let there = subst (λ xs. k < length xs) c.children.ensures l in
    let known = child_known c.args.groups.now.groups c.args.groups.now.monitors c.args.group.0 k d
    c.facts.ensures.valid there in
    let same = ap (λ (xs : List MonitorId). (get_or xs k d).0) c.children.ensures in
    let long = c.requires.monitors in
    omega (arith, known, same, long)

pub put-requires : goal.put-requires
put-requires c =
    let gs = c.args.groups.now.groups in
    let g = c.args.group.0 in
    let low = slice_get_within gs g (Some (children_at gs g)) (group_is gs g c.requires.there) in
    let n = c.facts.ensures.valid.numbers in
    let h = c.requires.costs.2.hard_long in
    let s = c.requires.costs.2.soft_long in
    (omega (arith, low, n, h), omega (arith, low, n, s))

pub returns : goal.returns
returns c =
    let gs = c.args.groups.now.groups in
    let g = c.args.group.0 in
    let low = slice_get_within gs g (Some (children_at gs g)) (group_is gs g c.requires.there) in
    let n = c.facts.ensures.valid.numbers in
    renewed_costs c.args.lines.now c.requires.costs.0 gs c.args.self.now.hard.items c.args.self.now.soft.items
    c.put.new.self.hard.items c.put.new.self.soft.items g c.totals_among-totals.result.hard
    c.totals_among-totals.result.soft c.requires.costs.1 c.requires.costs.2 c.requires.costs.3 low
    (omega (arith, low, n))
    (c.totals_among-totals.ensures.hard ∙ ap (sum_by (child_cost hard_cost c.args.lines.now)) c.children.ensures)
    (c.totals_among-totals.ensures.soft ∙ ap (sum_by (child_cost soft_cost c.args.lines.now)) c.children.ensures)
    c.put.ensures.hard c.put.ensures.soft
