-- The entries so far, and those of the rest, are all.
use Rattle.std.proofs.Common.{◌≡◌, ◌++◌, map, drop}
use Rattle.archive_generator.specs.Solutions.{entry}
use Rattle.archive_generator.proofs.solutions.entries.Given as goal

abbrev pub invariant-loop-one : goal.invariant-loop-one
invariant-loop-one l = l.list ++ map entry (drop l.one-index l.drawn) ≡ map entry l.drawn
