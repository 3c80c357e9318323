use Rattle.std.proofs.Common.{◌≤◌}
use Rattle.repair_moves.specs.Items.{is_task_in}
use Rattle.repair_moves.specs.Tasks.{NoPlaceBefore}
use Rattle.repair_moves.proofs.items.next_place.Given as goal

abbrev pub invariant-loop-place : goal.invariant-loop-place
invariant-loop-place l =
    record {
      onward : l.fn.from ≤ l.place;
      none : NoPlaceBefore (is_task_in l.inst l.solution.slots l.rule l.point) l.slot l.fn.from l.place;
    }
