-- The events so far, and those of the rest, are all.
use Rattle.std.proofs.Common.{◌≡◌, ◌++◌, map, drop}
use Rattle.archive_generator.specs.Events.{event}
use Rattle.archive_generator.proofs.events.events.Given as goal

abbrev pub invariant-loop-one : goal.invariant-loop-one
invariant-loop-one l = l.events ++ map (event l.size) (drop l.one-index l.drawn) ≡ map (event l.size) l.drawn
