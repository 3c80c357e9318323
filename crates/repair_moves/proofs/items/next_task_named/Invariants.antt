use Rattle.std.proofs.Common.{◌-◌}
use Rattle.khe_solution.specs.NextTask.{IsFrom}
use Rattle.repair_moves.specs.Items.{is_task_in, meet_slots}
use Rattle.repair_moves.specs.Tasks.{NoTaskBefore}
use Rattle.repair_moves.proofs.items.next_task_named.Given as goal

abbrev pub invariant-loop-meet : goal.invariant-loop-meet
invariant-loop-meet l =
    record {
      onward : IsFrom l.fn.from l.at;
      none : NoTaskBefore (is_task_in l.inst l.solution.slots l.rule l.point) l.fn.from l.at;
    }

abbrev pub decreases-loop-meet : goal.decreases-loop-meet
decreases-loop-meet l = meet_slots l.inst - l.at.meet.0
