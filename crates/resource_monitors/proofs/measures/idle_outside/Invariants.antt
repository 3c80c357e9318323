-- The total is that of the sets so far.
use Rattle.std.proofs.Common.{◌≡◌, ◌*◌, ◌≤◌, sum_by, take}
use Rattle.khe_base.specs.declared.limits.TheConstants.{TIMES}
use Rattle.timetables.specs.Counts.{row_of, idle_times}
use Rattle.resource_monitors.proofs.measures.idle_outside.Given as goal

abbrev pub invariant-loop-mask : goal.invariant-loop-mask
invariant-loop-mask l = record {
  value : l.total ≡ sum_by (idle_times (row_of l.table l.r.0)) (take l.mask-index l.masks);
  small : l.total ≤ l.mask-index * TIMES;
}
