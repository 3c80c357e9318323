use Rattle.std.proofs.Common.{Some, set, subst, sym, ◌∙◌}
use Rattle.monitor_graph.specs.GroupCosts.{AreGroupCosts}
use Rattle.monitor_graph.specs.Groups.{children_at, without}
use Rattle.monitor_graph.proofs.graph.Graph.remove_child.Goals as goal

pub invariant_of-self : goal.invariant_of-self
invariant_of-self c =
    let s = c.self.inside in
    let i = c.self.invariant in
    let gs = s.groups.groups in
    let fewer = set gs c.args.group.0 (Some (without c.args.child.0 (children_at gs c.args.group.0))) in (
      i.0,
      i.1,
      i.2,
      c.remove-2.ensures.monitors ∙ i.3,
      subst (λ x. AreGroupCosts s.lines.items x c.remove.new.self.hard.items c.remove.new.self.soft.items)
          (sym c.remove-2.ensures.groups)
          (subst (λ xs. AreGroupCosts xs fewer c.remove.new.self.hard.items c.remove.new.self.soft.items)
          c.as_slice.ensures.value c.remove.ensures),
      i.5,
    )
