use Rattle.std.proofs.Common.{subst, sym, ◌∙◌}
use Rattle.monitor_graph.specs.GroupCosts.{AreGroupCosts}
use Rattle.monitor_graph.proofs.graph.Graph.room.Goals as goal

pub invariant_of-self : goal.invariant_of-self
invariant_of-self c =
    let s = c.self.inside in
    let i = c.self.invariant in (
      i.0,
      i.1,
      i.2,
      c.reserve.ensures.monitors ∙ i.3,
      subst (λ x. AreGroupCosts s.lines.items x s.costs.hard.items s.costs.soft.items) (sym c.reserve.ensures.groups) i.4,
      i.5,
    )
