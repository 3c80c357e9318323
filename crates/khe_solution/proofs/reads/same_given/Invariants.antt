use Rattle.std.proofs.Common.{◌≡◌, drop}
use Rattle.khe_solution.specs.Reading.{same_given}
use Rattle.khe_solution.proofs.reads.same_given.Given as goal

abbrev pub invariant-loop-k : goal.invariant-loop-k
invariant-loop-k l = same_given (drop l.k l.a) (drop l.k l.b) ≡ same_given l.a l.b
