-- The row of each slot comes after those of the slots before it.
use Rattle.std.proofs.Common.{◌+◌, List, None, arith, subst, sym}
use Rattle.khe_told.specs.declared.rows.Row.{Row}
use Rattle.khe_told.proofs.OpeningLaws.{IsOpened, few_places, opened_more, opened_order, opened_slots}
use Rattle.khe_told.proofs.opening.rows_of.Goals as goal

pub overflow_cast-len : goal.overflow_cast-len
overflow_cast-len c =
    let few = few_places c.args.inst.now c.loop-number.number c.event_of-event.result.0 c.event.result.now
    c.facts.ensures.first_meets c.event_of-event.ensures c.event.ensures in
    let limit = c.facts.ensures.limits.tasks in
    let many = c.len.ensures in
    omega (arith, few, limit, many)

pub loop-number-preserved : goal.loop-number-preserved
loop-number-preserved c =
    let p = c.args.inst.now in
    let event = c.event_of-event.result in
    let row : Row = record { event = event; first_task = c.first_task.result; places = c.len.result; span = None } in
    subst (λ (rs : List Row). IsOpened p rs (c.loop-number.number + 1)) (sym {A = List Row} c.in_ok-push.ensures.items)
    (opened_more p c.loop-number.rows.items c.loop-number.number event.0 c.event.result.now row
    c.facts.ensures.first_meets c.loop-number.invariant c.event_of-event.ensures c.event.ensures
    (λ i. record { event = event; first_task = c.first_task.ensures i; places = c.len.ensures i; span = None }))

pub returns-clause-slots : goal.returns-clause-slots
returns-clause-slots c =
    let many = c.meet_slots-number-end.ensures in
    opened_slots c.args.inst.now c.loop-number.rows.items c.loop-number.number (omega (arith, many))
    c.loop-number.invariant

pub returns-clause-order : goal.returns-clause-order
returns-clause-order c =
    let many = c.meet_slots-number-end.ensures in
    opened_order c.args.inst.now c.loop-number.rows.items c.loop-number.number (omega (arith, many))
    c.loop-number.invariant
