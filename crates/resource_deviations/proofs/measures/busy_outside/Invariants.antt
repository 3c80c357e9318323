-- The total is that of the sets so far.
use Rattle.std.proofs.Common.{◌≡◌, ◌*◌, ◌≤◌, sum_by, take}
use Rattle.khe_instance.specs.ResourceDeviation.{used_outside}
use Rattle.timetables.specs.Counts.{row_of, busy_times}
use Rattle.resource_deviations.proofs.measures.busy_outside.Given as goal

abbrev pub invariant-loop-mask : goal.invariant-loop-mask
invariant-loop-mask l = record {
  value : l.total ≡ sum_by (λ m. used_outside (busy_times (row_of l.table l.r.0) m) l.least l.greatest)
      (take l.mask-index l.masks);
  small : l.total ≤ l.mask-index * 8589934592;
}
