use Rattle.std.proofs.Common.{subst, arith}
use Rattle.khe_told.specs.Slots.{slot_at}
use Rattle.khe_solution.specs.Reading.{Shows}
use Rattle.khe_solution.proofs.Spans.{event_there, never_full, first_found, first_small}
use Rattle.khe_solution.proofs.slots.new_meet.Goals as goal

pub event-requires : goal.event-requires
event-requires c =
    event_there c.args.inst.now c.args.slots.now c.args.meet.0 c.in-Some.own c.requires.told
    (subst (λ s. Shows (slot_at s c.args.meet.0) c.in-Some.own) c.told.ensures c.in-Some.ensures)

pub unreachable-requires-in_default-first_free : goal.unreachable-requires-in_default-first_free
unreachable-requires-in_default-first_free c =
    never_full c.args.inst.now c.args.slots.now c.args.meet.0 c.in-Some.own c.event.result.now c.requires.told
    c.facts.ensures c.requires.long
    (subst (λ s. Shows (slot_at s c.args.meet.0) c.in-Some.own) c.told.ensures c.in-Some.ensures) c.event.ensures
    c.in_default-first_free.ensures

pub overflow_cast-result : goal.overflow_cast-result
overflow_cast-result c =
    let small = first_small c.args.inst.now c.args.slots.now c.args.meet.0 c.in-Some-first_free.slot c.in-Some.own
    c.event.result.now c.requires.told c.facts.ensures c.requires.long
    (subst (λ s. Shows (slot_at s c.args.meet.0) c.in-Some.own) c.told.ensures c.in-Some.ensures) c.event.ensures
    c.in-Some-first_free.ensures in
    omega (arith, small)

pub returns : goal.returns
returns c =
    first_found c.args.inst.now c.args.slots.now c.args.meet.0 c.in-Some-first_free.slot c.in-Some.own
    c.event.result.now c.requires.told c.facts.ensures c.requires.long
    (subst (λ s. Shows (slot_at s c.args.meet.0) c.in-Some.own) c.told.ensures c.in-Some.ensures) c.event.ensures
    c.in-Some-first_free.ensures
