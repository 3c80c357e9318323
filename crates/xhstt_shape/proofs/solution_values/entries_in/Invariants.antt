-- What the list has, and then what the elements that are left say, is what all of them say.
use Rattle.std.proofs.Common.{◌≡◌, ◌++◌, map}
use Rattle.xhstt_text.specs.Handles.{size}
use Rattle.xhstt_shape.specs.Values as spec
use Rattle.xhstt_shape.proofs.solution_values.entries_in.Given as goal

abbrev pub invariant-loop-next : goal.invariant-loop-next
invariant-loop-next l = l.list ++ map spec.entry (spec.elements l.rest)
    ≡ map spec.entry (spec.elements l.fn.element.kids)

abbrev pub decreases-loop-next : goal.decreases-loop-next
decreases-loop-next l = size l.rest
