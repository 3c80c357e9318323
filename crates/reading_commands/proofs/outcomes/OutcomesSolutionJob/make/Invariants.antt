-- The text so far and that of the solutions that are left of the batch are that of the batch.
use Rattle.std.proofs.Common.{◌≡◌, ◌+◌, ◌-◌, ◌++◌, map}
use Rattle.std.specs.List.{flat_map}
use Rattle.parallel_solve.specs.Batches.{batch_of}
use Rattle.reading_commands.specs.Report.{row_text}
use Rattle.reading_commands.proofs.outcomes.OutcomesSolutionJob.make.Given as goal

abbrev pub invariant-loop-number : goal.invariant-loop-number
invariant-loop-number g l =
    let row = row_text l.fn.self.all l.fn.solutions.resolved.now (map (λ x. x.now) l.fn.self.groups.now) in
    let raws = map (λ x. x.now) l.fn.solutions.raws.now in
    l.text ++ flat_map row (batch_of l.number ((l.fn.first + l.fn.count) - l.number) raws)
    ≡ flat_map row (batch_of l.fn.first l.fn.count raws)
