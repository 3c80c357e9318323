use Rattle.std.proofs.Common.{◌≡◌, ◌∙◌, ◌+◌, Some, None, slice_get, ap, arith}
use Rattle.khe_told.specs.Slots.{slot_at}
use Rattle.hall_report.proofs.Following.{event_there, entry_there, set_is}
use Rattle.hall_report.proofs.renewing.Picks.resources.Goals as goal

pub first_entry-requires : goal.first_entry-requires
first_entry-requires c = event_there c.args.inst.now c.args.told.now c.args.meet.0 c.event-event.result c.facts.ensures
    c.requires.told c.requires.meet c.event-event.ensures

pub index-requires : goal.index-requires
index-requires c =
    let a = entry_there c.args.inst.now c.args.told.now c.args.meet.0 c.args.place c.args.self.now.resources.items
    c.event-event.result c.facts.ensures c.requires.told c.requires.meet c.requires.place c.event-event.ensures
    c.requires.entries in
    let b = c.first_entry.ensures in
    omega (arith, a, b)

pub returns-in-None : goal.returns-in-None
returns-in-None c =
    let a = entry_there c.args.inst.now c.args.told.now c.args.meet.0 c.args.place c.args.self.now.resources.items
    c.event-event.result c.facts.ensures c.requires.told c.requires.meet c.requires.place c.event-event.ensures
    c.requires.entries in
    let b = c.first_entry.ensures in
    let none : slice_get (slot_at c.args.told.now c.args.meet.0).given c.args.place ≡ Some None =
    c.resource.ensures ∙ ap Some c.in-None.is in
    set_is c.args.inst.now (slot_at c.args.told.now c.args.meet.0) c.args.place c.args.self.now.resources.items
    c.event-event.result (c.first_entry.result + c.args.place) c.index.result.now c.event-event.ensures
    (ap (λ n. n + c.args.place) b) (omega (arith, a, b)) c.index.ensures none
