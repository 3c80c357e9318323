use Rattle.std.proofs.Common.{◌∙◌, false, sym, get_or, arith}
use Rattle.monitor_graph.specs.Opened.{no_line}
use Rattle.monitor_graph.proofs.GroupCostLaws.{follow_over, follow_within, group_below, hard_out, once_there, soft_out}
use Rattle.monitor_graph.proofs.group_costs.GroupCosts.follow_in.Goals as goal

pub returns-then-not-holds : goal.returns-then-not-holds
returns-then-not-holds c =
    follow_over c.args.lines.now c.args.groups.now.groups c.args.monitor.0 c.args.line c.args.self.now.hard.items
    c.args.self.now.soft.items c.args.group.0 c.requires.costs (sym c.holds.ensures ∙ c.if-not-holds.true)

pub swap_at-requires-clause-there : goal.swap_at-requires-clause-there
swap_at-requires-clause-there c =
    let low = group_below c.args.lines.now c.args.groups.now.groups c.requires.valid c.requires.few c.requires.each
    c.args.group.0 c.args.monitor.0 (sym c.holds.ensures ∙ c.if-not-holds.false) in
    let h = c.requires.costs.hard_long in
    let s = c.requires.costs.soft_long in
    (omega (arith, low, h), omega (arith, low, s))

pub swap_at-requires-clause-hard : goal.swap_at-requires-clause-hard
swap_at-requires-clause-hard c =
    hard_out c.args.lines.now c.args.groups.now.groups c.requires.valid c.requires.few c.requires.each c.args.group.0
    c.args.monitor.0 (no_line false) (get_or c.args.self.now.hard.items c.args.group.0 0)
    (sym c.holds.ensures ∙ c.if-not-holds.false) (c.requires.costs.hard.1 c.args.group.0 (omega arith))

pub swap_at-requires-clause-soft : goal.swap_at-requires-clause-soft
swap_at-requires-clause-soft c =
    soft_out c.args.lines.now c.args.groups.now.groups c.requires.valid c.requires.few c.requires.each c.args.group.0
    c.args.monitor.0 (no_line false) (get_or c.args.self.now.soft.items c.args.group.0 0)
    (sym c.holds.ensures ∙ c.if-not-holds.false) (c.requires.costs.soft.1 c.args.group.0 (omega arith))

pub returns : goal.returns
returns c =
    let child = sym c.holds.ensures ∙ c.if-not-holds.false in
    follow_within c.args.lines.now c.args.groups.now.groups c.args.monitor.0 c.args.line
    c.args.self.now.hard.items c.args.self.now.soft.items c.swap_at.new.self.hard.items c.swap_at.new.self.soft.items
    c.args.group.0 (no_line false) c.requires.costs
    (once_there c.args.lines.now c.args.groups.now.groups c.requires.valid c.requires.few c.requires.each
    c.args.group.0 c.args.monitor.0 child)
    c.requires.known
    (group_below c.args.lines.now c.args.groups.now.groups c.requires.valid c.requires.few c.requires.each
    c.args.group.0 c.args.monitor.0 child)
    c.swap_at.ensures.hard c.swap_at.ensures.soft
