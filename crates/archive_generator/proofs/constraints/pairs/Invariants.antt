-- The pairs so far.
use Rattle.std.proofs.Common.{◌≡◌, map}
use Rattle.archive_generator.specs.Names.{below}
use Rattle.archive_generator.specs.Constraints.{pair}
use Rattle.archive_generator.proofs.constraints.pairs.Given as goal

abbrev pub invariant-loop-number : goal.invariant-loop-number
invariant-loop-number l = l.pairs ≡ map pair (below l.number)
