use Rattle.xhstt_text.specs.Handles.{size}
use Rattle.xhstt_shape.proofs.building.count.Given as goal

abbrev pub decreases-loop-next : goal.decreases-loop-next
decreases-loop-next l = size l.rest
