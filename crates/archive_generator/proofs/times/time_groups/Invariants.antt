-- The days so far.
use Rattle.std.proofs.Common.{◌≡◌, map}
use Rattle.archive_generator.specs.Names.{below}
use Rattle.archive_generator.specs.Times.{day}
use Rattle.archive_generator.proofs.times.time_groups.Given as goal

abbrev pub invariant-loop-number : goal.invariant-loop-number
invariant-loop-number l = l.groups ≡ map day (below l.number)
