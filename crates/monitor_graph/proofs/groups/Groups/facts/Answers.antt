use Rattle.std.proofs.Common.{subst}
use Rattle.monitor_graph.specs.Groups.{AreGroups}
use Rattle.monitor_graph.specs.Seating.{Seating, groups_on}
use Rattle.monitor_graph.proofs.SeatLaws.{valid_is, few_is}
use Rattle.monitor_graph.proofs.groups.Groups.facts.Goals as goal

pub returns-clause-valid : goal.returns-clause-valid
returns-clause-valid c =
    let s = c.self.inside in
    subst (λ (v : Seating). AreGroups v.monitors v.groups) c.self.view_is
    (valid_is (groups_on s.benches.items) s.monitors s.many s.held.items c.self.invariant.0)

pub returns-clause-few : goal.returns-clause-few
returns-clause-few c g =
    let s = c.self.inside in
    few_is c.args.self.now.groups c.args.self.now.monitors g
    (subst (λ (v : Seating). AreGroups v.monitors v.groups) c.self.view_is
    (valid_is (groups_on s.benches.items) s.monitors s.many s.held.items c.self.invariant.0))
