use Rattle.std.proofs.Common.{◌-◌, ◌∙◌, length, slice_get, slice_set, sym, ap, subst, arith}
use Rattle.std.proofs.lemmas.List.{length-map}
use Rattle.khe_told.specs.declared.slots.Slot.{Slot}
use Rattle.event_monitors.proofs.SlotFacts.{turn_event}
use Rattle.set_monitors.specs.MeetEdges.{IsShort, end_key, own_slots, start_key}
use Rattle.set_monitors.proofs.OrderTurnLaws.{edges_set, has_place}
use Rattle.set_monitors.proofs.order_events.follow.Goals as goal

pub event-event-requires : goal.event-event-requires
event-event-requires c =
    let own = ap (λ e. e.0) c.event.ensures in
    let l = turn_event c.args.inst.now c.args.told.now c.args.turn.now c.requires.turns in
    omega (arith, own, l)

pub overflow_sub-place : goal.overflow_sub-place
overflow_sub-place c =
    let p = c.args.inst.now in
    let t = (has_place p c.args.told.now c.args.turn.now c.facts.ensures c.requires.turns c.event-event.result.now
    (ap (λ e. slice_get p.events e.0) (sym c.event.ensures) ∙ c.event-event.ensures)).from in
    let m = ap (λ k. k.0) c.meet.ensures in
    omega (arith, t, m)

pub set-requires-clause-start : goal.set-requires-clause-start
set-requires-clause-start c =
    let p = c.args.inst.now in
    let s = c.args.told.now in
    let turn = c.args.turn.now in
    let t = (has_place p s turn c.facts.ensures c.requires.turns c.event-event.result.now
    (ap (λ e. slice_get p.events e.0) (sym c.event.ensures) ∙ c.event-event.ensures)).within in
    let m = ap (λ k. k.0) c.meet.ensures in
    let l = ap length c.requires.of.starts
    ∙ length-map (own_slots turn.before.event.0 s) (λ (x : Slot). start_key x.span) in
    omega (arith, t, m, l)

pub set-requires-clause-end : goal.set-requires-clause-end
set-requires-clause-end c =
    let p = c.args.inst.now in
    let s = c.args.told.now in
    let turn = c.args.turn.now in
    let t = (has_place p s turn c.facts.ensures c.requires.turns c.event-event.result.now
    (ap (λ e. slice_get p.events e.0) (sym c.event.ensures) ∙ c.event-event.ensures)).within in
    let m = ap (λ k. k.0) c.meet.ensures in
    let l = ap length c.requires.of.ends
    ∙ length-map (own_slots turn.before.event.0 s) (λ (x : Slot). end_key x.span) in
    omega (arith, t, m, l)

pub set-requires-clause-short : goal.set-requires-clause-short
set-requires-clause-short c =
    let p = c.args.inst.now in
    subst IsShort (sym c.after-meet.ensures)
    (has_place p c.args.told.now c.args.turn.now c.facts.ensures c.requires.turns c.event-event.result.now
    (ap (λ e. slice_get p.events e.0) (sym c.event.ensures) ∙ c.event-event.ensures)).short

pub returns : goal.returns
returns c =
    let p = c.args.inst.now in
    let edges = c.args.edges.now in
    let first = c.event-event.result.now.first_meet in
    edges_set p c.args.told.now c.args.turn.now c.facts.ensures c.requires.turns c.event-event.result.now edges
    c.set.new.self (ap (λ e. slice_get p.events e.0) (sym c.event.ensures) ∙ c.event-event.ensures) c.requires.of
    (c.set.ensures.starts
    ∙ (λ i. slice_set edges.starts ((c.meet.ensures i).0 - first) (start_key (c.after-meet.ensures i))))
    (c.set.ensures.ends ∙ (λ i. slice_set edges.ends ((c.meet.ensures i).0 - first) (end_key (c.after-meet.ensures i))))
