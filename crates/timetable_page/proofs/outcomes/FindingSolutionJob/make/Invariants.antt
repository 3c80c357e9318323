-- What comes of the solutions so far.
use Rattle.std.proofs.Common.{◌≡◌, ◌+◌, ◌-◌, ◌≤◌, map}
use Rattle.parallel_solve.specs.Batches.{batch_of}
use Rattle.timetable_page.specs.Outcomes.{numbered_outcome}
use Rattle.timetable_page.proofs.outcomes.FindingSolutionJob.make.Given as goal

abbrev pub invariant-loop-number : goal.invariant-loop-number
invariant-loop-number g l = record {
  begun : l.fn.first ≤ l.number;
  within : l.number ≤ l.fn.first + l.fn.count;
  told : l.told.items ≡ map (numbered_outcome l.fn.solutions.resolved.now)
      (batch_of l.fn.first (l.number - l.fn.first) (map (λ x. x.now) l.fn.solutions.raws.now));
}
