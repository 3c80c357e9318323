use Rattle.std.proofs.Common.{◌-◌, ◌≤◌}
use Rattle.repair_moves.specs.Items.{is_open_at, task_slots}
use Rattle.repair_moves.specs.Picked.{NonePass}
use Rattle.repair_moves.proofs.items.next_open.Given as goal

abbrev pub invariant-loop-slot : goal.invariant-loop-slot
invariant-loop-slot l =
    record {
      onward : l.fn.from ≤ l.next;
      none : NonePass (is_open_at l.inst l.solution.slots l.point) l.fn.from l.next;
    }

abbrev pub decreases-loop-slot : goal.decreases-loop-slot
decreases-loop-slot l = task_slots l.inst - l.next
