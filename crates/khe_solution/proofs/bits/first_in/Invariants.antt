use Rattle.khe_solution.specs.FreeBits.{AreClear}
use Rattle.khe_solution.proofs.bits.first_in.Given as goal

abbrev pub invariant-loop-n : goal.invariant-loop-n
invariant-loop-n l = AreClear l.words l.from l.n
