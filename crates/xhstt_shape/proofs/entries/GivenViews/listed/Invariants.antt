-- What the list has, and then the resources that are left, are all.
use Rattle.std.proofs.Common.{◌≡◌, ◌++◌, length}
use Rattle.xhstt_shape.proofs.entries.GivenViews.listed.Given as goal

abbrev pub invariant-loop-next : goal.invariant-loop-next
invariant-loop-next l = l.list ++ l.rest ≡ l.fn.self

abbrev pub decreases-loop-next : goal.decreases-loop-next
decreases-loop-next l = length l.rest
