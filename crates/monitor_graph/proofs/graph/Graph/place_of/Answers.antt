use Rattle.std.proofs.Common.{length, ap, ◌∙◌, arith}
use Rattle.monitor_graph.specs.Boards.{Board}
use Rattle.monitor_graph.specs.Groups.{children_at, place_of}
use Rattle.monitor_graph.proofs.SeatLaws.{child_place}
use Rattle.monitor_graph.proofs.graph.Graph.place_of.Goals as goal

pub overflow_cast-result : goal.overflow_cast-result
overflow_cast-result c =
    let g = c.args.group.0 in
    let groups = c.self.inside.groups in
    let there = child_place (children_at c.args.self.now.groups g) c.args.child.0 c.args.child c.requires in
    let few = c.facts.ensures.few g in
    let same = ap (λ (b : Board). length (children_at b.groups g)) c.self.view_is in
    let place = c.place.ensures ∙ ap (λ (b : Board). place_of c.args.child.0 (children_at b.groups g)) c.self.view_is in
    let many = c.self.invariant.3 in
    let limit = c.self.invariant.0.few in
    let low = there.0 in
    omega (arith, low, few, same, place, many, limit)
