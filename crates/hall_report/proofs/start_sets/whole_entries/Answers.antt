use Rattle.std.proofs.Common.{◌+◌, ◌-◌, ℕ, length, sym, subst}
use Rattle.khe_instance.specs.Slots.{HasSlot}
use Rattle.hall_report.specs.Opening.{AreStartEntries, ServesFor}
use Rattle.hall_report.proofs.SetsOpened.{entries_more}
use Rattle.hall_report.proofs.UnitLaws.{unit_once}
use Rattle.hall_report.proofs.start_sets.whole_entries.Goals as goal

pub loop-slot-preserved : goal.loop-slot-preserved
loop-slot-preserved c =
    let p = c.args.inst.now in
    let a = c.event_of.result.0 in
    let n = c.loop-slot.slot in
    let serves = subst (λ last. ServesFor last (n - c.event-event.result.now.first_meet + 1) c.set_for.result)
    c.times.ensures c.set_for.ensures in
    subst (AreStartEntries p.events (length p.times) (n + 1)) (sym c.in_ok-push.ensures.items)
    (entries_more p.events (length p.times) n c.set_for.result a c.loop-slot.entries.items c.event-event.result.now
    c.loop-slot.invariant (λ (e : ℕ) (h : HasSlot p.events e n). unit_once p.events e a n
    c.facts.ensures.first_meets h c.event_of.ensures) c.event-event.ensures serves)
