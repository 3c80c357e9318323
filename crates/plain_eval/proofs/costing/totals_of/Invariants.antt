-- The totals of the monitors so far.
use Rattle.std.proofs.Common.{◌≡◌, ◌≤◌, ◌*◌, sum_by, slice_index, if◌then◌else◌}
use Rattle.std.specs.List.{range_with_len}
use Rattle.khe_base.specs.declared.limits.TheConstants.{GREATEST_COST}
use Rattle.khe_instance.specs.Costs.{is_hard_at}
use Rattle.plain_eval.proofs.costing.totals_of.Given as goal

abbrev pub invariant-loop-number : goal.invariant-loop-number
invariant-loop-number l = record {
  hard : l.totals.hard ≡ sum_by (λ n. if is_hard_at l.inst n then slice_index l.costs n else 0)
      (range_with_len 0 l.number);
  soft : l.totals.soft ≡ sum_by (λ n. if is_hard_at l.inst n then 0 else slice_index l.costs n)
      (range_with_len 0 l.number);
  small_hard : l.totals.hard ≤ l.number * GREATEST_COST;
  small_soft : l.totals.soft ≤ l.number * GREATEST_COST;
}
