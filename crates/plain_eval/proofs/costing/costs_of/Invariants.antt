-- The costs of the monitors so far.
use Rattle.std.proofs.Common.{◌≡◌, ◌≤◌, All, map}
use Rattle.std.specs.List.{range_with_len}
use Rattle.khe_base.specs.declared.limits.TheConstants.{GREATEST_COST}
use Rattle.khe_instance.specs.Costs.{cost_at}
use Rattle.khe_instance.specs.Evaluated.{is_detached}
use Rattle.plain_eval.proofs.costing.costs_of.Given as goal

abbrev pub invariant-loop-number : goal.invariant-loop-number
invariant-loop-number l = record {
  costs : l.costs ≡ map (cost_at l.inst (is_detached l.plain) l.deviations) (range_with_len 0 l.number);
  small : All (λ c. c ≤ GREATEST_COST) l.costs;
}
