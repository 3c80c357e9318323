-- The references so far have been followed.
use Rattle.std.proofs.Common.{◌≡◌, take, length}
use Rattle.xhstt_resolve.specs.Joined.{joined}
use Rattle.xhstt_resolve.specs.Members.{named}
use Rattle.xhstt_resolve.proofs.members.join_all.Given as goal

abbrev pub invariant-loop-reference : goal.invariant-loop-reference
invariant-loop-reference l = (l.lists.items ≡ joined l.number (named (take l.reference-index l.references)) l.names
    l.fn.lists.items) × (length l.names ≡ length l.lists.items)
