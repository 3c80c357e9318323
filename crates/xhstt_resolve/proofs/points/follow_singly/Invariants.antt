-- What is left goes on from what was met.
use Rattle.std.proofs.Common.{◌≡◌, drop, map}
use Rattle.std.specs.List.{fold}
use Rattle.xhstt_resolve.specs.Followed.{event_visit}
use Rattle.xhstt_resolve.proofs.points.follow_singly.Given as goal

abbrev pub invariant-loop-event : goal.invariant-loop-event
invariant-loop-event g l =
    fold g.F.Follow.met l.into (map event_visit (drop l.event-index l.events))
    ≡ fold g.F.Follow.met l.fn.into (map event_visit l.events)
