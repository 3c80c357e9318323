use Rattle.std.proofs.Common.{◌+◌, ap, map, sym, subst}
use Rattle.khe_instance.specs.declared.parts.Place.{Place}
use Rattle.hall_report.specs.Opening.{AreTypeEntries}
use Rattle.hall_report.proofs.ResourcesOpened.{places_more}
use Rattle.hall_report.proofs.resource_sets.whole_entries.Goals as goal

pub loop-slot-preserved : goal.loop-slot-preserved
loop-slot-preserved c =
    subst (AreTypeEntries c.args.inst.now (c.loop-slot.slot + 1)) (sym c.in_ok-push_types.ensures)
    (places_more c.args.inst.now c.loop-slot.slot c.event_of.result.0 c.loop-slot.entries.items _
    c.event-event.result.now c.facts.ensures c.loop-slot.invariant c.event_of.ensures c.event-event.ensures
    (ap (map (λ (z : Place). z.rtype)) c.as_slice.ensures))
