use Rattle.std.proofs.Common.{◌≤◌}
use Rattle.repair_moves.specs.Moves.{is_choice}
use Rattle.repair_moves.specs.Picked.{NonePass}
use Rattle.repair_moves.specs.declared.parts.Part.TheVariants.{TimeMoves}
use Rattle.repair_moves.proofs.choosing.next_time.Given as goal

abbrev pub invariant-loop-time : goal.invariant-loop-time
invariant-loop-time l =
    record {
      onward : l.fn.from ≤ l.time;
      none : NonePass (is_choice l.inst l.solution.slots l.fn.point TimeMoves l.item) l.fn.from l.time;
    }
