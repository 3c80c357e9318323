-- What is left goes on from what was met.
use Rattle.std.proofs.Common.{◌≡◌, drop, map}
use Rattle.std.specs.List.{fold}
use Rattle.xhstt_resolve.specs.Followed.{group_visit}
use Rattle.xhstt_resolve.proofs.points.follow_groups.Given as goal

abbrev pub invariant-loop-group : goal.invariant-loop-group
invariant-loop-group g l =
    fold g.F.Follow.met l.into (map (group_visit l.lookup.instance.now) (drop l.group-index l.groups))
    ≡ fold g.F.Follow.met l.fn.into (map (group_visit l.lookup.instance.now) l.groups)
