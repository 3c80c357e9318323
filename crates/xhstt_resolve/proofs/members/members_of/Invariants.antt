-- The lists so far are those of the items so far.
use Rattle.std.proofs.Common.{◌≡◌, take, map}
use Rattle.xhstt_resolve.specs.Members.{members}
use Rattle.xhstt_resolve.proofs.members.members_of.Given as goal

abbrev pub invariant-loop-number : goal.invariant-loop-number
invariant-loop-number g l = l.lists.items ≡ map (members g.T.Grouped.groups (take l.number l.items)) l.names
