use Rattle.std.proofs.Common.{sym, ap, ◌∙◌, arith}
use Rattle.std.specs.Prelude.{is_some, not}
use Rattle.khe_base.specs.declared.numbers.EventId.{EventId}
use Rattle.khe_solution.specs.Reading.{is_fixed_event}
use Rattle.repair_moves.specs.Items.{meet_slots}
use Rattle.repair_moves.specs.Moves.{is_choice}
use Rattle.repair_moves.specs.declared.parts.Part.TheVariants.{SwapMoves}
use Rattle.repair_moves.proofs.ChoiceLaws as laws
use Rattle.repair_moves.proofs.PickedLaws.{none_more, none_on}
use Rattle.repair_moves.proofs.SlotLaws.{slot_below}
use Rattle.repair_moves.proofs.choosing.next_swap.Goals as goal

pub returns-in_err-own-clause-next : goal.returns-in_err-own-clause-next
returns-in_err-own-clause-next c = rw c.from_residual.ensures
    (λ k a b. laws.swap_dead c.args.inst.now c.args.solution.now.slots c.args.point c.args.item k c.in_err-own.ensures)

pub returns-then-is_fixed_event-clause-next : goal.returns-then-is_fixed_event-clause-next
returns-then-is_fixed_event-clause-next c = λ k a b. laws.swap_fixed c.args.inst.now c.args.solution.now.slots
    c.args.point c.args.item k (ap (λ (e : EventId). is_fixed_event c.args.inst.now e.0) c.in_ok-own.ensures.event
    ∙ sym c.is_fixed_event.ensures ∙ c.if-is_fixed_event.true)

pub returns-then-is_none-clause-next : goal.returns-then-is_none-clause-next
returns-then-is_none-clause-next c = λ k a b. laws.swap_unplaced c.args.inst.now c.args.solution.now.slots c.args.point
    c.args.item k (ap is_some c.in_ok-own.ensures.start ∙ c.is_none.ensures ∙ ap not c.if-is_none.true)

pub returns-then-accepts-clause-next : goal.returns-then-accepts-clause-next
returns-then-accepts-clause-next c =
    let p = c.args.inst.now in
    let s = c.args.solution.now.slots in
    let e = c.in-Some.ensures in
    let o = c.loop-other.invariant.onward in
    let below = slot_below p s c.in-Some.other.0 c.facts.ensures.made c.facts.ensures.valid.told e.1 in
    let f = e.0 in (
      omega (arith, o, f),
      below,
      laws.SwapMoves_is p s c.args.point c.args.item c.in-Some.other.0 ∙ sym c.accepts.ensures ∙ c.if-accepts.true,
      none_on (is_choice p s c.args.point SwapMoves c.args.item) c.args.from c.loop-other.next.0 c.in-Some.other.0
          c.loop-other.invariant.none (λ k a b. laws.swap_apart p s c.args.point c.args.item k (e.2 k a b)),
    )

pub returns-then-accepts-clause-small : goal.returns-then-accepts-clause-small
returns-then-accepts-clause-small c =
    let e = c.in-Some.ensures in
    let below = slot_below c.args.inst.now c.args.solution.now.slots c.in-Some.other.0 c.facts.ensures.made
    c.facts.ensures.valid.told e.1 in
    let limit = c.facts.ensures.made.limits.duration in
    omega (arith, below, limit)

pub overflow_add-next : goal.overflow_add-next
overflow_add-next c =
    let e = c.in-Some.ensures in
    let below = slot_below c.args.inst.now c.args.solution.now.slots c.in-Some.other.0 c.facts.ensures.made
    c.facts.ensures.valid.told e.1 in
    let limit = c.facts.ensures.made.limits.duration in
    omega (arith, below, limit)

pub loop-other-preserved : goal.loop-other-preserved
loop-other-preserved c =
    let p = c.args.inst.now in
    let s = c.args.solution.now.slots in
    let test = is_choice p s c.args.point SwapMoves c.args.item in
    let e = c.in-Some.ensures in
    let o = c.loop-other.invariant.onward in
    let f = e.0 in
    record {
      onward = omega (arith, o, f);
      none = none_more test c.args.from c.in-Some.other.0
          (none_on test c.args.from c.loop-other.next.0 c.in-Some.other.0 c.loop-other.invariant.none
          (λ k a b. laws.swap_apart p s c.args.point c.args.item k (e.2 k a b)))
          (laws.SwapMoves_is p s c.args.point c.args.item c.in-Some.other.0 ∙ sym c.accepts.ensures
          ∙ c.if-accepts.false);
    }

pub loop-other-smaller : goal.loop-other-smaller
loop-other-smaller c =
    let e = c.in-Some.ensures in
    let below = slot_below c.args.inst.now c.args.solution.now.slots c.in-Some.other.0 c.facts.ensures.made
    c.facts.ensures.valid.told e.1 in
    let f = e.0 in
    omega (arith, below, f)

pub returns-clause-next : goal.returns-clause-next
returns-clause-next c =
    none_on (is_choice c.args.inst.now c.args.solution.now.slots c.args.point SwapMoves c.args.item) c.args.from
    c.loop-other.next.0 (meet_slots c.args.inst.now) c.loop-other.invariant.none
    (λ k a b. laws.swap_apart c.args.inst.now c.args.solution.now.slots c.args.point c.args.item k
    (c.in_default.ensures k a))
