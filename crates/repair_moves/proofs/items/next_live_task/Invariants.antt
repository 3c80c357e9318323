use Rattle.std.proofs.Common.{◌-◌, ◌≤◌}
use Rattle.repair_moves.specs.Items.{is_live_at, task_slots}
use Rattle.repair_moves.specs.Picked.{NonePass}
use Rattle.repair_moves.proofs.items.next_live_task.Given as goal

abbrev pub invariant-loop-slot : goal.invariant-loop-slot
invariant-loop-slot l = record {
  onward : l.fn.from ≤ l.slot;
  none : NonePass (is_live_at l.inst l.solution.slots) l.fn.from l.slot;
}

abbrev pub decreases-loop-slot : goal.decreases-loop-slot
decreases-loop-slot l = task_slots l.inst - l.slot
