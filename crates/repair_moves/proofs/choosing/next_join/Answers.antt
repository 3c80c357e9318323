use Rattle.std.proofs.Common.{sym, ap, ◌∙◌, arith}
use Rattle.khe_base.specs.declared.numbers.EventId.{EventId}
use Rattle.repair_moves.specs.Items.{meet_slots}
use Rattle.repair_moves.specs.Moves.{is_choice}
use Rattle.repair_moves.specs.declared.parts.Part.TheVariants.{Joins}
use Rattle.repair_moves.proofs.ChoiceLaws as laws
use Rattle.repair_moves.proofs.PickedLaws.{none_more, none_on}
use Rattle.repair_moves.proofs.SlotLaws.{slot_below}
use Rattle.repair_moves.proofs.choosing.next_join.Goals as goal
use Rattle.std.proofs.Common.{slice_get}
use Rattle.repair_moves.proofs.ItemLaws.{event_within}

pub returns-in_err-own-clause-next : goal.returns-in_err-own-clause-next
returns-in_err-own-clause-next c = rw c.from_residual.ensures
    (λ k a b. laws.join_dead c.args.inst.now c.args.solution.now.slots c.args.point c.args.item k c.facts.ensures.made
    c.facts.ensures.valid.told c.in_err-own.ensures)

pub event-event-requires : goal.event-event-requires
event-event-requires c = laws.event_there c.args.inst.now c.args.solution.now.slots c.args.item c.in_ok-own.own.event
    c.facts.ensures.made c.facts.ensures.valid.told c.in_ok-own.ensures.live c.in_ok-own.ensures.event

pub overflow_add-end : goal.overflow_add-end
overflow_add-end c = let w = event_within 0 c.in_ok-own.own.event.0 c.args.inst.now.events
    c.event-event.result.now c.facts.ensures.made.first_meets c.event-event.ensures in let d =
    c.facts.ensures.made.limits.duration in omega (arith, w, d)

pub loop-other-init : goal.loop-other-init
loop-other-init c = record {
  onward = omega arith;
  none = λ k a b. laws.join_outside c.args.inst.now c.args.solution.now.slots c.args.point c.args.item k
      c.event-event.result.now c.facts.ensures.made c.facts.ensures.valid.told
      (ap (λ (e : EventId). slice_get c.args.inst.now.events e.0) c.in_ok-own.ensures.event ∙ c.event-event.ensures)
      (λ x y. omega (arith, a, b, x));
}

pub returns-then-other-end-clause-next : goal.returns-then-other-end-clause-next
returns-then-other-end-clause-next c =
    let p = c.args.inst.now in
    let s = c.args.solution.now.slots in
    let test = is_choice p s c.args.point Joins c.args.item in
    let e = c.in-Some.ensures in
    none_on test c.args.from c.in-Some.other.0 (meet_slots p)
    (none_on test c.args.from c.loop-other.next.0 c.in-Some.other.0 c.loop-other.invariant.none
    (λ k a b. laws.join_apart p s c.args.point c.args.item k (e.2 k a b)))
    (λ k a b. laws.join_outside p s c.args.point c.args.item k c.event-event.result.now c.facts.ensures.made
    c.facts.ensures.valid.told
    (ap (λ (e : EventId). slice_get p.events e.0) c.in_ok-own.ensures.event ∙ c.event-event.ensures)
    (λ x y. let l = c.if-other-end.true in omega (arith, a, y, l)))

pub returns-then-accepts-clause-next : goal.returns-then-accepts-clause-next
returns-then-accepts-clause-next c =
    let p = c.args.inst.now in
    let s = c.args.solution.now.slots in
    let test = is_choice p s c.args.point Joins c.args.item in
    let e = c.in-Some.ensures in
    let o = c.loop-other.invariant.onward in
    let f = e.0 in (
      omega (arith, o, f),
      slot_below p s c.in-Some.other.0 c.facts.ensures.made c.facts.ensures.valid.told e.1,
      laws.Joins_is p s c.args.point c.args.item c.in-Some.other.0 ∙ sym c.accepts.ensures ∙ c.if-accepts.true,
      none_on test c.args.from c.loop-other.next.0 c.in-Some.other.0 c.loop-other.invariant.none
          (λ k a b. laws.join_apart p s c.args.point c.args.item k (e.2 k a b)),
    )

pub returns-then-accepts-clause-small : goal.returns-then-accepts-clause-small
returns-then-accepts-clause-small c =
    let e = c.in-Some.ensures in
    let below = slot_below c.args.inst.now c.args.solution.now.slots c.in-Some.other.0 c.facts.ensures.made
    c.facts.ensures.valid.told e.1 in
    let limit = c.facts.ensures.made.limits.duration in
    omega (arith, below, limit)

pub overflow_add-next : goal.overflow_add-next
overflow_add-next c =
    let e = c.in-Some.ensures in
    let below = slot_below c.args.inst.now c.args.solution.now.slots c.in-Some.other.0 c.facts.ensures.made
    c.facts.ensures.valid.told e.1 in
    let limit = c.facts.ensures.made.limits.duration in
    omega (arith, below, limit)

pub loop-other-preserved : goal.loop-other-preserved
loop-other-preserved c =
    let p = c.args.inst.now in
    let s = c.args.solution.now.slots in
    let test = is_choice p s c.args.point Joins c.args.item in
    let e = c.in-Some.ensures in
    let o = c.loop-other.invariant.onward in
    let f = e.0 in
    record {
      onward = omega (arith, o, f);
      none = none_more test c.args.from c.in-Some.other.0
          (none_on test c.args.from c.loop-other.next.0 c.in-Some.other.0 c.loop-other.invariant.none
          (λ k a b. laws.join_apart p s c.args.point c.args.item k (e.2 k a b)))
          (laws.Joins_is p s c.args.point c.args.item c.in-Some.other.0 ∙ sym c.accepts.ensures
          ∙ c.if-accepts.false);
    }

pub loop-other-smaller : goal.loop-other-smaller
loop-other-smaller c =
    let e = c.in-Some.ensures in
    let below = slot_below c.args.inst.now c.args.solution.now.slots c.in-Some.other.0 c.facts.ensures.made
    c.facts.ensures.valid.told e.1 in
    let f = e.0 in
    omega (arith, below, f)

pub returns-clause-next : goal.returns-clause-next
returns-clause-next c =
    none_on (is_choice c.args.inst.now c.args.solution.now.slots c.args.point Joins c.args.item) c.args.from
    c.loop-other.next.0 (meet_slots c.args.inst.now) c.loop-other.invariant.none
    (λ k a b. laws.join_apart c.args.inst.now c.args.solution.now.slots c.args.point c.args.item k
    (c.in_default.ensures k a))
