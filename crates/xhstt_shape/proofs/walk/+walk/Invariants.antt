-- The walk goes down the tree; the first fault of the children is that of those that are left.
use Rattle.std.proofs.Common.{◌≤◌, ◌+◌, ◌*◌}
use Rattle.xhstt_text.specs.Handles.{size}
use Rattle.xhstt_shape.proofs.SeenLaws.{IsAmid}
use Rattle.xhstt_shape.proofs.walk.+walk.Given as goal

abbrev pub decreases-look_at : goal.decreases-look_at
decreases-look_at l = 2 * size l.element.now.kids + 1

abbrev pub decreases-look_at_children : goal.decreases-look_at_children
decreases-look_at_children l = 2 * size l.element.now.kids

abbrev pub invariant-look_at_children-loop-next : goal.invariant-look_at_children-loop-next
invariant-look_at_children-loop-next l =
    IsAmid l.row l.seen l.rest l.element.kids × (size l.rest ≤ size l.element.kids)

abbrev pub decreases-look_at_children-loop-next : goal.decreases-look_at_children-loop-next
decreases-look_at_children-loop-next l = size l.rest
