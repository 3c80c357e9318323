-- What was there, and the resources so far.
use Rattle.std.proofs.Common.{◌≡◌, ◌++◌, map}
use Rattle.archive_generator.specs.Names.{below}
use Rattle.archive_generator.specs.Resources.{resource}
use Rattle.archive_generator.proofs.resources.add_resources.Given as goal

abbrev pub invariant-loop-number : goal.invariant-loop-number
invariant-loop-number l = l.list ≡ l.fn.list ++ map (resource l.sort) (below l.number)
