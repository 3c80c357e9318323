use Rattle.std.proofs.Common.{◌≤◌}
use Rattle.repair_moves.specs.Moves.{is_choice}
use Rattle.repair_moves.specs.Picked.{NonePass}
use Rattle.repair_moves.specs.declared.parts.Part.TheVariants.{TaskMoves}
use Rattle.repair_moves.proofs.choosing.next_resource.Given as goal

abbrev pub invariant-loop-number : goal.invariant-loop-number
invariant-loop-number l =
    record {
      onward : l.fn.from ≤ l.number;
      none : NonePass (is_choice l.inst l.solution.slots l.fn.point TaskMoves l.item) l.fn.from l.number;
    }
