-- What is left goes on from what was met.
use Rattle.std.proofs.Common.{◌≡◌, drop, map}
use Rattle.std.specs.List.{fold}
use Rattle.xhstt_resolve.specs.Followed.{resource_visit}
use Rattle.xhstt_resolve.proofs.points.follow_resources.Given as goal

abbrev pub invariant-loop-resource : goal.invariant-loop-resource
invariant-loop-resource g l =
    fold g.F.Follow.met l.into (map (resource_visit l.watches) (drop l.resource-index l.resources))
    ≡ fold g.F.Follow.met l.fn.into (map (resource_visit l.watches) l.resources)
