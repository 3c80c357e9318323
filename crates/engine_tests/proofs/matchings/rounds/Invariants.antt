-- The sizes stay.
use Rattle.engine_tests.specs.Matchings.{IsSized}
use Rattle.engine_tests.proofs.matchings.rounds.Given as goal

abbrev pub invariant-again : goal.invariant-again
invariant-again l = IsSized l.matching 200000 2000 100
