-- The group of all events, and the groups so far.
use Rattle.std.proofs.Common.{◌≡◌, ◌++◌, ◌∷◌, [], map}
use Rattle.archive_generator.specs.Names.{below}
use Rattle.archive_generator.specs.Events.{all, half}
use Rattle.archive_generator.proofs.events.event_groups.Given as goal

abbrev pub invariant-loop-number : goal.invariant-loop-number
invariant-loop-number l = l.groups ≡ all ∷ [] ++ map half (below l.number)
