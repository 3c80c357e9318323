-- The verdicts so far, and those of the batches that come.
use Rattle.std.proofs.Common.{◌≡◌, ◌++◌}
use Rattle.std.specs.List.{flat_map}
use Rattle.parallel_solve.proofs.evaluating.joined.Given as goal

abbrev pub invariant-loop-batch : goal.invariant-loop-batch
invariant-loop-batch l =
    l.all.items ++ flat_map (λ batch. batch) l.batch-iterator.rest.items ≡ flat_map (λ batch. batch) l.fn.batches.items
