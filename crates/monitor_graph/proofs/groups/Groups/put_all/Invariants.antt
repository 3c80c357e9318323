use Rattle.std.proofs.Common.{◌≡◌, Some, slice_set, take}
use Rattle.monitor_graph.proofs.groups.Groups.put_all.Given as goal

abbrev pub invariant-loop-place : goal.invariant-loop-place
invariant-loop-place l = record {
  groups : l.self.groups ≡ slice_set l.fn.self.groups l.group.0 (Some (take l.place l.children));
  monitors : l.self.monitors ≡ l.fn.self.monitors;
  seats : l.self.seats ≡ l.fn.self.seats;
}
