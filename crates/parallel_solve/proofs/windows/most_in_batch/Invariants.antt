-- The greatest number of monitors so far, and at least 1.
use Rattle.std.proofs.Common.{◌≤◌}
use Rattle.parallel_solve.proofs.windows.most_in_batch.Given as goal

abbrev pub invariant-loop-instance : goal.invariant-loop-instance
invariant-loop-instance l = 1 ≤ l.most
