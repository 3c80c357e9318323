use Rattle.std.proofs.Common.{true, false, sym, ap, ◌∙◌, arith, inl, inr}
use Rattle.khe_base.specs.declared.numbers.EventId.{EventId}
use Rattle.khe_instance.specs.Watching.{names_event}
use Rattle.khe_told.specs.Slots.{slot_at, given_at}
use Rattle.repair_moves.specs.Items.{is_task_in, is_task_of}
use Rattle.repair_moves.proofs.ChoiceLaws as choices
use Rattle.repair_moves.proofs.ItemLaws as laws
use Rattle.repair_moves.proofs.PickedLaws.{none_more}
use Rattle.repair_moves.proofs.items.next_place.Goals as goal
use Rattle.std.proofs.lemmas.Bool.{cases_lt}

pub event-requires : goal.event-requires
event-requires c = choices.event_there c.args.inst.now c.args.solution.now.slots c.args.slot c.in_ok-own.own.event
    c.facts.ensures.made c.facts.ensures.valid.told c.in_ok-own.ensures.live c.in_ok-own.ensures.event

pub overflow_cast-places : goal.overflow_cast-places
overflow_cast-places c = let d = laws.places_few c.args.inst.now c.args.solution.now.slots c.args.slot
    c.in_ok-own.own.event c.event.result.now c.facts.ensures.made c.facts.ensures.valid.told c.in_ok-own.ensures.live
    c.in_ok-own.ensures.event c.event.ensures in omega arith

pub is_place_of-requires : goal.is_place_of-requires
is_place_of-requires c = ap (λ (e : EventId). names_event c.args.inst.now c.args.rule.now c.args.point e.0)
    (sym c.in_ok-own.ensures.event) ∙ (laws.named_is c.args.inst.now c.args.solution.now.slots c.args.rule.now
    c.args.point c.args.slot c.requires.named).names

pub returns-then-is_place_of : goal.returns-then-is_place_of
returns-then-is_place_of c =
    let n = (laws.places_are c.args.inst.now c.args.solution.now.slots c.args.slot c.in_ok-own.own.event
    c.event.result.now c.facts.ensures.valid.told c.in_ok-own.ensures.live c.in_ok-own.ensures.event
    c.event.ensures) in
    let l = c.loop-place-test.true in (
      c.loop-place.invariant.onward,
      laws.place_is c.args.inst.now c.args.solution.now.slots c.args.rule.now c.args.point c.args.slot
          c.loop-place.place true c.in_ok-own.ensures.live (omega arith)
          (sym c.if-is_place_of.true ∙ c.is_place_of.ensures
          (given_at (slot_at c.args.solution.now.slots c.args.slot) c.loop-place.place)
          ∙ ap (λ (e : EventId). is_task_of c.args.inst.now c.args.rule.now c.args.point e.0 c.loop-place.place
          (given_at (slot_at c.args.solution.now.slots c.args.slot) c.loop-place.place))
          (sym c.in_ok-own.ensures.event)),
      c.loop-place.invariant.none,
    )

pub loop-place-preserved : goal.loop-place-preserved
loop-place-preserved c =
    let n = (laws.places_are c.args.inst.now c.args.solution.now.slots c.args.slot c.in_ok-own.own.event
    c.event.result.now c.facts.ensures.valid.told c.in_ok-own.ensures.live c.in_ok-own.ensures.event
    c.event.ensures) in
    let l = c.loop-place-test.true in
    let o = c.loop-place.invariant.onward in
    let here = laws.place_is c.args.inst.now c.args.solution.now.slots c.args.rule.now c.args.point c.args.slot
    c.loop-place.place false c.in_ok-own.ensures.live (omega arith)
    (sym c.if-is_place_of.false ∙ c.is_place_of.ensures
    (given_at (slot_at c.args.solution.now.slots c.args.slot) c.loop-place.place)
    ∙ ap (λ (e : EventId). is_task_of c.args.inst.now c.args.rule.now c.args.point e.0 c.loop-place.place
    (given_at (slot_at c.args.solution.now.slots c.args.slot) c.loop-place.place))
    (sym c.in_ok-own.ensures.event)) in
    record {
      onward = omega (arith, o);
      none = none_more (λ k. is_task_in c.args.inst.now c.args.solution.now.slots c.args.rule.now c.args.point
          (record { meet = record { 0 = c.args.slot }; place = k })) c.args.from c.loop-place.place
          c.loop-place.invariant.none here;
    }

pub returns : goal.returns
returns c =
    let n = (laws.places_are c.args.inst.now c.args.solution.now.slots c.args.slot c.in_ok-own.own.event
    c.event.result.now c.facts.ensures.valid.told c.in_ok-own.ensures.live c.in_ok-own.ensures.event
    c.event.ensures) in
    let l = c.loop-place-test.false in
    λ k a. elim (cases_lt k c.loop-place.place) [
      | inl b ↦ c.loop-place.invariant.none k a b
      | inr b ↦ laws.place_past c.args.inst.now c.args.solution.now.slots c.args.rule.now c.args.point c.args.slot k
          (omega arith)
    ]
