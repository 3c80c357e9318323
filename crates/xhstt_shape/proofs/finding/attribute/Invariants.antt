-- What is looked for is among the attributes that are left, where it is among all.
use Rattle.std.proofs.Common.{◌≡◌, length}
use Rattle.xhstt_shape.specs.Walk as spec
use Rattle.xhstt_shape.proofs.finding.attribute.Given as goal

abbrev pub invariant-loop-next : goal.invariant-loop-next
invariant-loop-next l = spec.attribute l.fn.label l.rest ≡ spec.attribute l.fn.label l.element.info.attributes

abbrev pub decreases-loop-next : goal.decreases-loop-next
decreases-loop-next l = length l.rest
