-- The first fault is that of the attributes that are left.
use Rattle.std.proofs.Common.{◌≡◌, length}
use Rattle.xhstt_shape.specs.Walk as spec
use Rattle.xhstt_shape.proofs.walk.look_at_attributes.Given as goal

abbrev pub invariant-loop-next : goal.invariant-loop-next
invariant-loop-next l = spec.attributes_fault l.allowed l.rest ≡ spec.attributes_fault l.allowed l.element.info.attributes

abbrev pub decreases-loop-next : goal.decreases-loop-next
decreases-loop-next l = length l.rest
