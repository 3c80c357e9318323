use Rattle.std.proofs.Common.{◌≡◌, take}
use Rattle.monitor_graph.specs.Opened.{groups_in}
use Rattle.monitor_graph.proofs.graph.Graph.group_all.Given as goal

abbrev pub invariant-loop-group : goal.invariant-loop-group
invariant-loop-group l = record {
  groups : l.self.groups ≡ groups_in (take l.group-index l.groups);
  lines : l.self.lines ≡ l.fn.self.lines;
  marked : l.self.marked ≡ l.fn.self.marked;
}
