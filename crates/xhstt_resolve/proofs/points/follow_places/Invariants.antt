-- What is left goes on from what was met.
use Rattle.std.proofs.Common.{◌≡◌, drop}
use Rattle.std.specs.List.{fold, flat_map}
use Rattle.xhstt_resolve.specs.Followed.{visits_at}
use Rattle.xhstt_resolve.proofs.points.follow_places.Given as goal

abbrev pub invariant-loop-event : goal.invariant-loop-event
invariant-loop-event g l =
    fold g.F.Follow.met l.into (flat_map (visits_at l.places) (drop l.event-index l.events))
    ≡ fold g.F.Follow.met l.fn.into (flat_map (visits_at l.places) l.events)
