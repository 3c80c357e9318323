-- The total is that of the sets so far.
use Rattle.std.proofs.Common.{◌≡◌, ◌*◌, ◌≤◌, sum_by, take, [], ◌∷◌}
use Rattle.khe_base.specs.Bits.{is_set}
use Rattle.khe_base.specs.Busy.{busy_times}
use Rattle.khe_instance.specs.ResourceDeviation.{used_outside}
use Rattle.resource_monitors.proofs.row_measures.busy_outside_of.Given as goal

abbrev pub invariant-loop-mask : goal.invariant-loop-mask
invariant-loop-mask l = record {
  value : l.total ≡ sum_by (λ m. used_outside (busy_times (is_set (l.word ∷ [])) m) l.least l.greatest)
      (take l.mask-index l.masks);
  small : l.total ≤ l.mask-index * 8589934592;
}
