-- As many of the sets so far have a busy time.
use Rattle.std.proofs.Common.{◌≡◌, ◌≤◌, nat_lt, count_by, take, [], ◌∷◌}
use Rattle.khe_base.specs.Bits.{is_set}
use Rattle.khe_base.specs.Busy.{busy_times}
use Rattle.resource_monitors.proofs.row_measures.busy_sets_outside_of.Given as goal

abbrev pub invariant-loop-mask : goal.invariant-loop-mask
invariant-loop-mask l = record {
  value : l.busy_sets ≡ count_by (λ m. nat_lt 0 (busy_times (is_set (l.word ∷ [])) m)) (take l.mask-index l.masks);
  small : l.busy_sets ≤ l.mask-index;
}
