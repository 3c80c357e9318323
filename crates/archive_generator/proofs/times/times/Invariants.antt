-- The times so far.
use Rattle.std.proofs.Common.{◌≡◌, map}
use Rattle.archive_generator.specs.Names.{below}
use Rattle.archive_generator.specs.Times.{time}
use Rattle.archive_generator.proofs.times.times.Given as goal

abbrev pub invariant-loop-number : goal.invariant-loop-number
invariant-loop-number l = l.times ≡ map time (below l.number)
