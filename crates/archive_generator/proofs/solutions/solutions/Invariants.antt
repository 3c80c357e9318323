-- The solutions so far, and those of the rest, are all.
use Rattle.std.proofs.Common.{◌≡◌, ◌++◌, map, drop}
use Rattle.archive_generator.specs.Solutions.{solution}
use Rattle.archive_generator.proofs.solutions.solutions.Given as goal

abbrev pub invariant-loop-one : goal.invariant-loop-one
invariant-loop-one l = l.list ++ map solution (drop l.one-index l.drawn) ≡ map solution l.drawn
