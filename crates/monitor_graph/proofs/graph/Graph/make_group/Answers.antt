use Rattle.std.proofs.Common.{◌≡◌, Some, None, slice_get, subst, sym, ◌∙◌}
use Rattle.monitor_graph.specs.Boards.{Board}
use Rattle.monitor_graph.specs.GroupCosts.{AreGroupCosts}
use Rattle.monitor_graph.proofs.GroupCostLaws.{made_costs}
use Rattle.monitor_graph.proofs.graph.Graph.make_group.Goals as goal

pub invariant_of-self : goal.invariant_of-self
invariant_of-self c =
    let s = c.self.inside in
    let i = c.self.invariant in
    let free = subst (λ (b : Board). slice_get b.groups c.args.group.0 ≡ Some None) (sym c.self.view_is) c.requires.free in (
      i.0,
      i.1,
      i.2,
      c.make.ensures.monitors ∙ i.3,
      subst (λ x. AreGroupCosts s.lines.items x s.costs.hard.items s.costs.soft.items) (sym c.make.ensures.groups)
          (made_costs s.lines.items s.groups.groups s.costs.hard.items s.costs.soft.items i.4 c.args.group.0 free),
      i.5,
    )
