use Rattle.monitor_graph.proofs.GroupCostLaws.{follow_alone}
use Rattle.monitor_graph.proofs.group_costs.GroupCosts.follow.Goals as goal

pub returns-then-is_alone : goal.returns-then-is_alone
returns-then-is_alone c =
    follow_alone c.args.lines.now c.args.groups.now.groups c.args.monitor.0 c.args.line c.args.self.now.hard.items
    c.args.self.now.soft.items c.requires.costs (c.is_alone.ensures c.if-is_alone.true)
