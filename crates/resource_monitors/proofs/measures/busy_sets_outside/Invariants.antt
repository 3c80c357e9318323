-- As many of the sets so far have a busy time.
use Rattle.std.proofs.Common.{◌≡◌, ◌≤◌, nat_lt, count_by, take}
use Rattle.timetables.specs.Counts.{row_of, busy_times}
use Rattle.resource_monitors.proofs.measures.busy_sets_outside.Given as goal

abbrev pub invariant-loop-mask : goal.invariant-loop-mask
invariant-loop-mask l = record {
  value : l.busy_sets ≡ count_by (λ m. nat_lt 0 (busy_times (row_of l.table l.r.0) m)) (take l.mask-index l.masks);
  small : l.busy_sets ≤ l.mask-index;
}
