use Rattle.engine_tests.specs.Matchings.{SameSizes}
use Rattle.engine_tests.proofs.matchings.drop_all.Given as goal

abbrev pub invariant-loop-demand : goal.invariant-loop-demand
invariant-loop-demand l = SameSizes l.fn.matching l.matching
