use Rattle.std.proofs.Common.{◌≡◌, Some}
use Rattle.khe_told.specs.Slots.{slot_at}
use Rattle.hall_report.proofs.Following.{event_there, span_of}
use Rattle.hall_report.proofs.renewing.Picks.domain.Goals as goal

pub starts-requires-clause-event : goal.starts-requires-clause-event
starts-requires-clause-event c = event_there c.args.inst.now c.args.told.now c.args.meet.0 c.event-event.result
    c.facts.ensures c.requires.told c.requires.meet c.event-event.ensures

pub starts-requires-clause-span : goal.starts-requires-clause-span
starts-requires-clause-span c =
    let e : (slot_at c.args.told.now c.args.meet.0).span ≡ Some c.in-Some.span = cc in
    span_of c.args.inst.now c.args.told.now c.args.meet.0 c.in-Some.span c.event-event.result c.facts.ensures
    c.requires.told c.requires.meet c.event-event.ensures e
