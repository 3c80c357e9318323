-- The days so far.
use Rattle.std.proofs.Common.{◌≡◌, map}
use Rattle.archive_generator.specs.Names.{below}
use Rattle.archive_generator.specs.Constraints.{spread}
use Rattle.archive_generator.proofs.constraints.spreads.Given as goal

abbrev pub invariant-loop-number : goal.invariant-loop-number
invariant-loop-number l = l.list ≡ map spread (below l.number)
