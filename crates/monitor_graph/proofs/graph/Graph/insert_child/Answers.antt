use Rattle.std.proofs.Common.{Some, set, subst, sym, ◌∙◌}
use Rattle.std.specs.List.{insert}
use Rattle.monitor_graph.specs.GroupCosts.{AreGroupCosts}
use Rattle.monitor_graph.specs.Groups.{children_at}
use Rattle.monitor_graph.proofs.graph.Graph.insert_child.Goals as goal

pub invariant_of-self : goal.invariant_of-self
invariant_of-self c =
    let s = c.self.inside in
    let i = c.self.invariant in
    let gs = s.groups.groups in
    let more = set gs c.args.group.0 (Some (insert (children_at gs c.args.group.0) c.args.place c.args.child)) in (
      i.0,
      i.1,
      i.2,
      c.insert.ensures.monitors ∙ i.3,
      subst (λ x. AreGroupCosts s.lines.items x c.add.new.self.hard.items c.add.new.self.soft.items)
          (sym c.insert.ensures.groups)
          (subst (λ xs. AreGroupCosts xs more c.add.new.self.hard.items c.add.new.self.soft.items)
          c.as_slice.ensures.value (c.add.ensures c.args.place)),
      i.5,
    )
