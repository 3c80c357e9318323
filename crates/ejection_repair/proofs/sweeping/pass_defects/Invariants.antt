use Rattle.std.proofs.Common.{◌≡◌, ◌≤◌, length, drop}
use Rattle.ejection_repair.specs.Values.{costs_at, defects_from}
use Rattle.ejection_repair.proofs.sweeping.pass_defects.Given as goal

abbrev pub invariant-loop-done : goal.invariant-loop-done
invariant-loop-done g l =
    let all = defects_from (costs_at l.engine.parts l.engine.state) 0 in
    (defects_from (costs_at l.engine.parts l.engine.state) l.from ≡ drop l.done all) × (l.done ≤ length all)
