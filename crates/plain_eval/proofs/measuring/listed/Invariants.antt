-- The deviations so far and those of the monitors that are left are those of all monitors.
use Rattle.std.proofs.Common.{◌≡◌, ◌≤◌, ◌++◌, All, drop, map}
use Rattle.khe_base.specs.declared.limits.TheConstants.{GREATEST_DEVIATION}
use Rattle.khe_instance.specs.Deviation.{deviation}
use Rattle.plain_eval.specs.Measured.{deviations_by}
use Rattle.plain_eval.proofs.measuring.listed.Given as goal

abbrev pub invariant-loop-number : goal.invariant-loop-number
invariant-loop-number l = record {
  deviations : l.deviations ++ map (deviation l.inst l.events.meets l.events.duties) (drop l.number l.inst.monitors)
      ≡ deviations_by l.inst l.events.meets l.events.duties;
  small : All (λ d. d ≤ GREATEST_DEVIATION) l.deviations;
  room : l.event_room ≡ l.fn.event_room;
}
