use Rattle.std.proofs.Common.{false, get_or, subst, arith}
use Rattle.monitor_graph.specs.Groups.{AreGroups}
use Rattle.monitor_graph.specs.Opened.{no_line}
use Rattle.monitor_graph.proofs.GroupCostLaws.{group_below, hard_out, removed_costs, soft_out}
use Rattle.monitor_graph.proofs.group_costs.GroupCosts.remove.Goals as goal

pub swap_at-requires-clause-there : goal.swap_at-requires-clause-there
swap_at-requires-clause-there c =
    let low = group_below c.args.lines.now c.args.groups.now.groups
    (subst (λ n. AreGroups n c.args.groups.now.groups) c.requires.monitors c.facts.ensures.valid)
    c.requires.few c.requires.each c.args.group.0 c.args.child.0 c.requires.there in
    let h = c.requires.costs.hard_long in
    let s = c.requires.costs.soft_long in
    (omega (arith, low, h), omega (arith, low, s))

pub swap_at-requires-clause-hard : goal.swap_at-requires-clause-hard
swap_at-requires-clause-hard c =
    hard_out c.args.lines.now c.args.groups.now.groups
    (subst (λ n. AreGroups n c.args.groups.now.groups) c.requires.monitors c.facts.ensures.valid)
    c.requires.few c.requires.each c.args.group.0 c.args.child.0 (no_line false)
    (get_or c.args.self.now.hard.items c.args.group.0 0) c.requires.there (c.requires.costs.hard c.args.group.0)

pub swap_at-requires-clause-soft : goal.swap_at-requires-clause-soft
swap_at-requires-clause-soft c =
    soft_out c.args.lines.now c.args.groups.now.groups
    (subst (λ n. AreGroups n c.args.groups.now.groups) c.requires.monitors c.facts.ensures.valid)
    c.requires.few c.requires.each c.args.group.0 c.args.child.0 (no_line false)
    (get_or c.args.self.now.soft.items c.args.group.0 0) c.requires.there (c.requires.costs.soft c.args.group.0)

pub returns : goal.returns
returns c =
    let gs = c.args.groups.now.groups in
    let g = c.args.group.0 in
    let valid = subst (λ n. AreGroups n gs) c.requires.monitors c.facts.ensures.valid in
    let low = group_below c.args.lines.now gs valid c.requires.few c.requires.each g c.args.child.0 c.requires.there in
    let n = valid.numbers in
    removed_costs c.args.lines.now gs c.args.self.now.hard.items c.args.self.now.soft.items c.requires.costs
    c.swap_at.new.self.hard.items c.swap_at.new.self.soft.items g c.args.child.0 _ _ (no_line false) c.args.child
    c.requires.there (omega (arith, low, n)) low (valid.known g c.args.child.0 c.requires.there) c.freed.ensures.hard
    c.freed.ensures.soft c.swap_at.ensures.hard c.swap_at.ensures.soft
