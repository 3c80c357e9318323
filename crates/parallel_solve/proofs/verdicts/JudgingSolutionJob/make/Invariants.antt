-- What comes of the solutions so far.
use Rattle.std.proofs.Common.{◌≡◌, ◌+◌, ◌-◌, ◌≤◌, map}
use Rattle.parallel_solve.specs.Batches.{batch_of}
use Rattle.parallel_solve.specs.Verdicts.{numbered_verdict}
use Rattle.parallel_solve.proofs.verdicts.JudgingSolutionJob.make.Given as goal

abbrev pub invariant-loop-number : goal.invariant-loop-number
invariant-loop-number g l = record {
  begun : l.fn.first ≤ l.number;
  within : l.number ≤ l.fn.first + l.fn.count;
  told : l.told.items ≡ map (numbered_verdict l.fn.solutions.resolved.now)
      (batch_of l.fn.first (l.number - l.fn.first) (map (λ x. x.now) l.fn.solutions.raws.now));
}
