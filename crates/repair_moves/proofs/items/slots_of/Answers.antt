use Rattle.std.proofs.Common.{◌+◌, sym, ap, ◌∙◌, arith}
use Rattle.std.proofs.lemmas.Option.{same_Some, slice_get_within}
use Rattle.khe_instance.specs.declared.parts.EventInfo.{EventInfo}
use Rattle.repair_moves.proofs.ItemLaws.{event_within}
use Rattle.repair_moves.proofs.items.slots_of.Goals as goal

pub returns-then-event-events-clause-are : goal.returns-then-event-events-clause-are
returns-then-event-events-clause-are c = λ event at.
    (let l = slice_get_within c.args.inst.now.events c.args.event.0 event at in
    let n = c.events.ensures in
    let g = c.if-event-events.true in
    absurd (omega (arith, l, n, g)))

pub overflow_add-result : goal.overflow_add-result
overflow_add-result c =
    let w = event_within 0 c.args.event.0 c.args.inst.now.events c.event-info.result.now c.facts.ensures.first_meets
    c.event-info.ensures in
    let d = c.facts.ensures.limits.duration in
    omega (arith, w, d)

pub returns-clause-within : goal.returns-clause-within
returns-clause-within c =
    let w = event_within 0 c.args.event.0 c.args.inst.now.events c.event-info.result.now c.facts.ensures.first_meets
    c.event-info.ensures in
    omega (arith, w)

pub returns-clause-are : goal.returns-clause-are
returns-clause-are c = λ event at.
    (let same = same_Some c.event-info.result.now event (sym c.event-info.ensures ∙ at) in
    (ap (λ (x : EventInfo). x.first_meet) same, ap (λ (x : EventInfo). x.first_meet + x.duration) same))
