use Rattle.std.proofs.Common.{◌-◌, ◌≤◌}
use Rattle.repair_moves.specs.Named.{is_named}
use Rattle.repair_moves.specs.Picked.{NonePass}
use Rattle.repair_moves.proofs.items.next_named.Given as goal

abbrev pub invariant-loop-slot : goal.invariant-loop-slot
invariant-loop-slot l =
    record {
      onward : l.fn.from ≤ l.slot;
      none : NonePass (is_named l.inst l.solution.slots l.rule l.point) l.fn.from l.slot;
    }

abbrev pub decreases-loop-slot : goal.decreases-loop-slot
decreases-loop-slot l = l.within.end - l.slot
