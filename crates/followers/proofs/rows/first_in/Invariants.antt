use Rattle.khe_solution.specs.FreeBits.{AreClear}
use Rattle.followers.proofs.rows.first_in.Given as goal

abbrev pub invariant-loop-n : goal.invariant-loop-n
invariant-loop-n l = AreClear l.words l.from l.n
