-- What is left goes on from what was met.
use Rattle.std.proofs.Common.{◌≡◌, drop, map}
use Rattle.std.specs.List.{fold}
use Rattle.xhstt_resolve.specs.Followed.{visit_of}
use Rattle.xhstt_resolve.proofs.points.meet_all.Given as goal

abbrev pub invariant-loop-place : goal.invariant-loop-place
invariant-loop-place g l =
    fold g.F.Follow.met l.into (map visit_of (drop l.place-index l.places))
    ≡ fold g.F.Follow.met l.fn.into (map visit_of l.places)
