use Rattle.std.proofs.Common.{ℕ, ◌≡◌, ◌+◌, ◌*◌, ◌≤◌, drop}
use Rattle.khe_base.specs.declared.limits.TheConstants.{GREATEST_TOTAL}
use Rattle.resource_match.specs.Choices.{choice_sum, sum_from}
use Rattle.resource_match.proofs.summing.sum_of.Given as goal

abbrev pub invariant-loop-task : goal.invariant-loop-task
invariant-loop-task l = record {
  hard : l.sum.hard + (sum_from l.costs l.task (drop l.task l.choice)).hard ≡ (choice_sum l.costs l.choice).hard;
  soft : l.sum.soft + (sum_from l.costs l.task (drop l.task l.choice)).soft ≡ (choice_sum l.costs l.choice).soft;
  hard_small : l.sum.hard ≤ l.task * GREATEST_TOTAL;
  soft_small : l.sum.soft ≤ l.task * GREATEST_TOTAL;
}
