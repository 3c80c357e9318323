use Rattle.std.proofs.Common.{◌≡◌, ◌-◌, ◌+◌, ◌<◌, ◌^◌, length, drop}
use Rattle.repair_moves.specs.Cursors.{ahead, left_of_parts}
use Rattle.repair_moves.proofs.walking.next_move.Given as goal

abbrev pub invariant-loop-part : goal.invariant-loop-part
invariant-loop-part l =
    record {
      ahead : ahead l.inst l.solution.slots l.fn.cursor
          ≡ left_of_parts l.inst l.solution.slots l.rule l.monitor.point (drop l.part l.parts) l.spot;
      small : l.spot.item + 1 < 2 ^ 32;
      same : l.cursor ≡ l.fn.cursor;
    }

abbrev pub decreases-loop-part : goal.decreases-loop-part
decreases-loop-part l = length l.parts - l.part
