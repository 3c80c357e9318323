use Rattle.std.proofs.Common.{Some, false, get_or, subst, arith}
use Rattle.std.proofs.lemmas.Option.{slice_get_within}
use Rattle.monitor_graph.specs.Groups.{AreGroups, children_at}
use Rattle.monitor_graph.specs.Opened.{no_line}
use Rattle.monitor_graph.proofs.GroupCostLaws.{added_costs, hard_in, soft_in}
use Rattle.monitor_graph.proofs.SeatLaws.{group_is}
use Rattle.monitor_graph.proofs.group_costs.GroupCosts.add.Goals as goal

pub swap_at-requires-clause-there : goal.swap_at-requires-clause-there
swap_at-requires-clause-there c =
    let gs = c.args.groups.now.groups in
    let g = c.args.group.0 in
    let low = slice_get_within gs g (Some (children_at gs g)) (group_is gs g c.requires.there) in
    let n = c.facts.ensures.valid.numbers in
    let h = c.requires.costs.hard_long in
    let s = c.requires.costs.soft_long in
    (omega (arith, low, n, h), omega (arith, low, n, s))

pub swap_at-requires-clause-hard : goal.swap_at-requires-clause-hard
swap_at-requires-clause-hard c =
    hard_in c.args.lines.now c.args.groups.now.groups
    (subst (λ n. AreGroups n c.args.groups.now.groups) c.requires.monitors c.facts.ensures.valid)
    c.requires.few c.requires.each c.args.group.0 _ (get_or c.args.self.now.hard.items c.args.group.0 0)
    c.freed.ensures.hard (c.requires.costs.hard c.args.group.0)

pub swap_at-requires-clause-soft : goal.swap_at-requires-clause-soft
swap_at-requires-clause-soft c =
    soft_in c.args.lines.now c.args.groups.now.groups
    (subst (λ n. AreGroups n c.args.groups.now.groups) c.requires.monitors c.facts.ensures.valid)
    c.requires.few c.requires.each c.args.group.0 _ (get_or c.args.self.now.soft.items c.args.group.0 0)
    c.freed.ensures.soft (c.requires.costs.soft c.args.group.0)

pub returns : goal.returns
returns c k =
    let gs = c.args.groups.now.groups in
    let g = c.args.group.0 in
    let low = slice_get_within gs g (Some (children_at gs g)) (group_is gs g c.requires.there) in
    let n = c.facts.ensures.valid.numbers in
    added_costs c.args.lines.now gs c.args.self.now.hard.items c.args.self.now.soft.items c.requires.costs
    c.swap_at.new.self.hard.items c.swap_at.new.self.soft.items g k _ _ (no_line false) c.args.child low
    (omega (arith, low, n)) c.requires.known c.freed.ensures.hard c.freed.ensures.soft c.swap_at.ensures.hard
    c.swap_at.ensures.soft
