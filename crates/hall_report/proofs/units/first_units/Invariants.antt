use Rattle.std.proofs.Common.{◌≡◌, map, take}
use Rattle.khe_instance.specs.declared.parts.EventInfo.{EventInfo}
use Rattle.hall_report.proofs.units.first_units.Given as goal

abbrev pub invariant-loop-event : goal.invariant-loop-event
invariant-loop-event l = l.free.items ≡ map (λ (e : EventInfo). e.first_meet) (take l.event l.inst.events)
