use Rattle.std.proofs.Common.{◌≡◌, ◌≤◌, length, drop}
use Rattle.repair_moves.specs.Cursors.{ahead, IsCursor}
use Rattle.ejection_repair.proofs.rotating.pass_by.Given as goal

abbrev pub invariant-loop-done : goal.invariant-loop-done
invariant-loop-done l =
    (ahead l.inst l.solution.slots l.cursor ≡ drop l.done (ahead l.inst l.solution.slots l.fn.first))
    × (l.done ≤ length (ahead l.inst l.solution.slots l.fn.first)) × IsCursor l.inst l.cursor
