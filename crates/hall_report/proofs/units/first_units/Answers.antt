use Rattle.std.proofs.Common.{◌++◌, ◌∷◌, [], ◌∙◌, sym, ap}
use Rattle.khe_instance.specs.declared.parts.EventInfo.{EventInfo}
use Rattle.hall_report.proofs.UnitsOpened.{mapped_next}
use Rattle.hall_report.proofs.units.first_units.Goals as goal

pub loop-event-preserved : goal.loop-event-preserved
loop-event-preserved c =
    c.in_ok-push.ensures.items
    ∙ ap (λ xs. xs ++ c.event.result.now.first_meet ∷ []) c.loop-event.invariant
    ∙ sym (mapped_next (λ (e : EventInfo). e.first_meet) c.args.inst.now.events c.loop-event.event c.event.result.now
    c.event.ensures)
