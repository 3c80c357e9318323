-- What the list has, and then the constraints among the elements that are left, are all constraints.
use Rattle.std.proofs.Common.{◌≡◌, ◌++◌}
use Rattle.std.specs.List.{filter_map}
use Rattle.xhstt_text.specs.Handles.{size}
use Rattle.xhstt_shape.specs.Values as spec
use Rattle.xhstt_shape.proofs.constraint_values.constraints_among.Given as goal

abbrev pub invariant-loop-next : goal.invariant-loop-next
invariant-loop-next l = l.list ++ filter_map spec.constraint (spec.elements l.rest)
    ≡ filter_map spec.constraint (spec.elements l.fn.element.kids)

abbrev pub decreases-loop-next : goal.decreases-loop-next
decreases-loop-next l = size l.rest
