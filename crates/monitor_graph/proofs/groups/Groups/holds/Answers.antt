use Rattle.std.proofs.Common.{◌<◌, length, ap, ◌∙◌, arith}
use Rattle.khe_base.specs.Bits.{is_set}
use Rattle.monitor_graph.specs.Groups.{has_child}
use Rattle.monitor_graph.specs.Seating.{Seating, groups_on, bit_of}
use Rattle.monitor_graph.proofs.BenchLaws.{benches_long}
use Rattle.monitor_graph.proofs.SeatLaws.{bit_tells}
use Rattle.monitor_graph.proofs.groups.Groups.holds.Goals as goal

pub returns-then-group-len : goal.returns-then-group-len
returns-then-group-len c =
    let s = c.self.inside in
    let long = benches_long s.benches.items in
    let low : c.args.group.0 < length (groups_on s.benches.items) = omega (arith, long) in
    c.is_set.ensures ∙ ap (λ w. is_set w (bit_of c.args.child.0 c.args.group.0)) c.as_slice.ensures.value
    ∙ bit_tells (groups_on s.benches.items) s.monitors s.many s.held.items c.args.group.0 c.args.child.0
    c.self.invariant.0 low
    ∙ ap (λ (v : Seating). has_child v.groups c.args.group.0 c.args.child.0) c.self.view_is
