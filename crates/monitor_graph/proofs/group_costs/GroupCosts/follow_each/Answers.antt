use Rattle.std.proofs.Common.{subst, arith}
use Rattle.monitor_graph.specs.Groups.{AreGroups}
use Rattle.monitor_graph.proofs.GroupCostLaws.{follow_all, follow_none}
use Rattle.monitor_graph.proofs.group_costs.GroupCosts.follow_each.Goals as goal

pub loop-number-init : goal.loop-number-init
loop-number-init c =
    follow_none c.args.lines.now c.args.groups.now.groups c.args.monitor.0 c.args.line c.args.self.now.hard.items
    c.args.self.now.soft.items c.requires.costs

pub follow_in-requires-clause-valid : goal.follow_in-requires-clause-valid
follow_in-requires-clause-valid c =
    subst (λ n. AreGroups n c.args.groups.now.groups) c.requires.monitors c.facts.ensures.valid

pub returns : goal.returns
returns c =
    follow_all c.args.lines.now c.args.groups.now.groups c.args.monitor.0 c.args.line
    c.loop-number.self.hard.items c.loop-number.self.soft.items c.loop-number.number c.loop-number.invariant
    (let n = c.facts.ensures.valid.numbers in omega (arith, n))
