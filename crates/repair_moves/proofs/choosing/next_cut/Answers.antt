use Rattle.std.proofs.Common.{◌+◌, ◌<◌, sym, ap, ◌∙◌, arith}
use Rattle.khe_base.specs.declared.numbers.EventId.{EventId}
use Rattle.khe_told.specs.Slots.{length_of, slot_at}
use Rattle.khe_solution.specs.Reading.{is_fixed_event}
use Rattle.repair_moves.proofs.ChoiceLaws as laws
use Rattle.repair_moves.proofs.choosing.next_cut.Goals as goal

pub returns-in_err-own-clause-next : goal.returns-in_err-own-clause-next
returns-in_err-own-clause-next c = rw c.from_residual.ensures
    (λ k a b. laws.cut_dead c.args.inst.now c.args.solution.now.slots c.args.point c.args.item k c.in_err-own.ensures)

pub returns-then-is_fixed_event-clause-next : goal.returns-then-is_fixed_event-clause-next
returns-then-is_fixed_event-clause-next c = λ k a b. laws.cut_fixed c.args.inst.now c.args.solution.now.slots
    c.args.point c.args.item k (ap (λ (e : EventId). is_fixed_event c.args.inst.now e.0) c.in_ok-own.ensures.event
    ∙ sym c.is_fixed_event.ensures ∙ c.if-is_fixed_event.true)

pub returns-then-from-end-clause-next : goal.returns-then-from-end-clause-next
returns-then-from-end-clause-next c =
    let l = c.if-from-end.true in
    let d = c.in_ok-own.ensures.duration in
    let shorter : c.args.from + 1 < length_of (slot_at c.args.solution.now.slots c.args.item) = omega arith in (
      omega arith,
      laws.cut_within c.args.inst.now c.args.solution.now.slots c.args.point c.args.item c.args.from shorter,
      laws.cut_may c.args.inst.now c.args.solution.now.slots c.args.point c.args.item c.args.from
          (record {
            live = c.in_ok-own.ensures.live;
            free =
                (ap (λ (e : EventId). is_fixed_event c.args.inst.now e.0) c.in_ok-own.ensures.event
                ∙ sym c.is_fixed_event.ensures ∙ c.if-is_fixed_event.false);
            shorter = shorter;
          }),
      λ k a b. absurd (omega (arith, a, b)),
    )

pub returns-else-from-end-clause-next : goal.returns-else-from-end-clause-next
returns-else-from-end-clause-next c = λ k a b. laws.cut_long c.args.inst.now c.args.solution.now.slots c.args.point
    c.args.item k (let l = c.if-from-end.false in let d = c.in_ok-own.ensures.duration in omega arith)
