-- The places so far, with those that are left, are all.
use Rattle.std.proofs.Common.{◌≡◌, ◌++◌, drop, map}
use Rattle.xhstt_resolve.specs.Parts.{member_place}
use Rattle.xhstt_resolve.proofs.places.push_members.Given as goal

abbrev pub invariant-loop-member : goal.invariant-loop-member
invariant-loop-member l =
    l.places ++ map (member_place l.lookup.instance.now l.event) (drop l.member-index l.members) ≡ l.fn.places
    ++ map (member_place l.lookup.instance.now l.event) l.members
