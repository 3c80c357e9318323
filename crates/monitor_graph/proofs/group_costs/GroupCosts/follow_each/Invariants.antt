use Rattle.std.proofs.Common.{slice_set}
use Rattle.monitor_graph.specs.GroupCosts.{AreChangedTo}
use Rattle.monitor_graph.proofs.group_costs.GroupCosts.follow_each.Given as goal

abbrev pub invariant-loop-number : goal.invariant-loop-number
invariant-loop-number l = AreChangedTo l.number l.lines (slice_set l.lines l.monitor.0 l.line) l.groups.groups
    l.self.hard.items l.self.soft.items
