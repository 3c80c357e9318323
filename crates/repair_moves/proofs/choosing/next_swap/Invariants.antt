use Rattle.std.proofs.Common.{◌-◌, ◌≤◌}
use Rattle.repair_moves.specs.Items.{meet_slots}
use Rattle.repair_moves.specs.Moves.{is_choice}
use Rattle.repair_moves.specs.Picked.{NonePass}
use Rattle.repair_moves.specs.declared.parts.Part.TheVariants.{SwapMoves}
use Rattle.repair_moves.proofs.choosing.next_swap.Given as goal

abbrev pub invariant-loop-other : goal.invariant-loop-other
invariant-loop-other l =
    record {
      onward : l.fn.from ≤ l.next.0;
      none : NonePass (is_choice l.inst l.solution.slots l.fn.point SwapMoves l.item) l.fn.from l.next.0;
    }

abbrev pub decreases-loop-other : goal.decreases-loop-other
decreases-loop-other l = meet_slots l.inst - l.next.0
