-- The references so far.
use Rattle.std.proofs.Common.{◌≡◌}
use Rattle.archive_generator.specs.Names.{to_each}
use Rattle.archive_generator.proofs.lists.to_each.Given as goal

abbrev pub invariant-loop-number : goal.invariant-loop-number
invariant-loop-number l = l.list ≡ to_each l.word l.number
