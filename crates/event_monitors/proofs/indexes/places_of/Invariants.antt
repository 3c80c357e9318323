use Rattle.std.proofs.Common.{length}
use Rattle.event_monitors.proofs.PostLaws.{ArePlaced}
use Rattle.event_monitors.proofs.indexes.places_of.Given as goal

abbrev pub invariant-loop-place : goal.invariant-loop-place
invariant-loop-place g l = ArePlaced l.posts l.places.items (length l.inst.monitors) l.place
