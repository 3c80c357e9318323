use Rattle.std.proofs.Common.{◌<◌, sym, ap, ◌∙◌, arith, length}
use Rattle.std.specs.Prelude.{not}
use Rattle.khe_base.specs.declared.numbers.EventId.{EventId}
use Rattle.khe_solution.specs.Reading.{is_fixed_event, is_time}
use Rattle.repair_moves.specs.Moves.{is_choice}
use Rattle.repair_moves.specs.declared.parts.Part.TheVariants.{TimeMoves}
use Rattle.repair_moves.proofs.ChoiceLaws as laws
use Rattle.repair_moves.proofs.PickedLaws.{none_more, none_on}
use Rattle.repair_moves.proofs.SlotLaws.{live_long}
use Rattle.repair_moves.proofs.choosing.next_time.Goals as goal

pub returns-in_err-own-clause-next : goal.returns-in_err-own-clause-next
returns-in_err-own-clause-next c = rw c.from_residual.ensures
    (λ k a b. laws.time_dead c.args.inst.now c.args.solution.now.slots c.args.point c.args.item k c.in_err-own.ensures)

pub returns-then-is_fixed_event-clause-next : goal.returns-then-is_fixed_event-clause-next
returns-then-is_fixed_event-clause-next c = λ k a b. laws.time_fixed c.args.inst.now c.args.solution.now.slots
    c.args.point c.args.item k (ap (λ (e : EventId). is_fixed_event c.args.inst.now e.0) c.in_ok-own.ensures.event
    ∙ sym c.is_fixed_event.ensures ∙ c.if-is_fixed_event.true)

pub returns-then-is_elsewhere-clause-next : goal.returns-then-is_elsewhere-clause-next
returns-then-is_elsewhere-clause-next c =
    let t = c.loop-time.time in
    let shows = c.in_ok-own.ensures in
    let long = live_long c.args.inst.now c.args.solution.now.slots c.args.item c.facts.ensures.valid.told shows.live in
    let l = c.loop-time-test.true in
    let many = c.times.ensures in
    let d = shows.duration in
    let within : t < length c.args.inst.now.times = omega arith in (
      c.loop-time.invariant.onward,
      within,
      laws.time_move_may c.args.inst.now c.args.solution.now.slots c.args.point c.args.item t (record {
        live = shows.live;
        free = (ap (λ (e : EventId). is_fixed_event c.args.inst.now e.0) c.in_ok-own.ensures.event
            ∙ sym c.is_fixed_event.ensures ∙ c.if-is_fixed_event.false);
        within = within;
        other = ap (is_time t) shows.start ∙ c.is_elsewhere.ensures ∙ ap not c.if-is_elsewhere.true;
        ends = omega arith;
      }),
      c.loop-time.invariant.none,
    )

pub loop-time-preserved : goal.loop-time-preserved
loop-time-preserved c = record {
  onward = let o = c.loop-time.invariant.onward in omega (arith, o);
  none = none_more (is_choice c.args.inst.now c.args.solution.now.slots c.args.point TimeMoves c.args.item) c.args.from
      c.loop-time.time c.loop-time.invariant.none
      (laws.time_start c.args.inst.now c.args.solution.now.slots c.args.point c.args.item c.loop-time.time
      (ap (is_time c.loop-time.time) c.in_ok-own.ensures.start ∙ c.is_elsewhere.ensures
      ∙ ap not c.if-is_elsewhere.false));
}

pub returns-clause-next : goal.returns-clause-next
returns-clause-next c =
    none_on (is_choice c.args.inst.now c.args.solution.now.slots c.args.point TimeMoves c.args.item) c.args.from
    c.loop-time.time (length c.args.inst.now.times) c.loop-time.invariant.none
    (λ k a b. laws.time_late c.args.inst.now c.args.solution.now.slots c.args.point c.args.item k
    (let l = c.loop-time-test.false in let many = c.times.ensures in let d = c.in_ok-own.ensures.duration in
    omega arith))
