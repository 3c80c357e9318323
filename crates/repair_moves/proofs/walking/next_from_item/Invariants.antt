use Rattle.std.proofs.Common.{◌≡◌, [], length}
use Rattle.std.specs.Prelude.{IfSome}
use Rattle.repair_moves.specs.Moves.{choices_from, items_from, part_from}
use Rattle.repair_moves.proofs.walking.next_from_item.Given as goal

abbrev pub invariant-loop-item : goal.invariant-loop-item
invariant-loop-item l =
    record {
      same : part_from l.inst l.solution.slots l.rule l.point l.part l.fn.from
          ≡ part_from l.inst l.solution.slots l.rule l.point l.part l.from;
      bare : IfSome l.bare (λ n. choices_from l.inst l.solution.slots l.point l.part n 0 ≡ []);
    }

abbrev pub decreases-loop-item : goal.decreases-loop-item
decreases-loop-item l = length (items_from l.inst l.solution.slots l.rule l.point l.part l.from)
