-- What the list has, and then what the elements that are left say, is what all of them say.
use Rattle.std.proofs.Common.{◌≡◌, ◌++◌, map}
use Rattle.xhstt_text.specs.Handles.{size}
use Rattle.xhstt_shape.specs.Values as spec
use Rattle.xhstt_shape.proofs.building.all.Given as goal

abbrev pub invariant-loop-next : goal.invariant-loop-next
invariant-loop-next g l = l.list ++ map g.T.Build.value (spec.named l.fn.tag l.rest)
    ≡ map g.T.Build.value (spec.named l.fn.tag l.fn.element.kids)

abbrev pub decreases-loop-next : goal.decreases-loop-next
decreases-loop-next g l = size l.rest
