-- What is looked for is among the children that are left, where it is among all.
use Rattle.std.proofs.Common.{◌≡◌}
use Rattle.xhstt_text.specs.Handles.{size}
use Rattle.xhstt_shape.specs.Walk as spec
use Rattle.xhstt_shape.proofs.finding.child.Given as goal

abbrev pub invariant-loop-next : goal.invariant-loop-next
invariant-loop-next l = spec.child l.fn.tag l.rest ≡ spec.child l.fn.tag l.element.kids

abbrev pub decreases-loop-next : goal.decreases-loop-next
decreases-loop-next l = size l.rest
