-- All tasks of one more meet have their turn.
use Rattle.std.proofs.Common.{◌<◌, get_or, length, ap, arith, ◌∙◌}
use Rattle.khe_instance.specs.Slots.{slot_tasks}
use Rattle.khe_told.proofs.ValidLaws.{subst2}
use Rattle.khe_told.specs.Fits.{AreTold}
use Rattle.khe_told.specs.Slots.{slot_at}
use Rattle.construct.proofs.TurnLaws.{meet_next, meets_end, same_many, same_places}
use Rattle.construct.specs.Constructed.{staffed}
use Rattle.construct.proofs.constructing.give_all.Goals as goal

pub give_meet-requires-clause-slot : goal.give_meet-requires-clause-slot
give_meet-requires-clause-slot g c =
    let p = c.args.engine.now.parts in
    let k = c.loop-meet.meet-index in
    let now = subst2 AreTold (c.solution-in-loop-meet.ensures.parts ∙ c.loop-meet.invariant.parts)
    c.solution-in-loop-meet.ensures.slots c.facts-in-loop-meet.ensures.told in
    let then_ = subst2 AreTold c.solution.ensures.parts c.solution.ensures.slots c.facts.ensures.told in
    let many = same_many p c.loop-meet.engine.state.slots c.args.engine.now.state.slots now then_ in
    let low = c.requires.slots k 0 c.loop-meet-test.true in
    omega (arith, many, low)

pub loop-meet-preserved : goal.loop-meet-preserved
loop-meet-preserved g c =
    let p = c.args.engine.now.parts in
    let w = c.loop-meet.engine in
    let k = c.loop-meet.meet-index in
    let m = get_or c.args.meets.now k 0 in
    let inv = c.loop-meet.invariant in
    let now = subst2 AreTold (c.solution-in-loop-meet.ensures.parts ∙ inv.parts)
    c.solution-in-loop-meet.ensures.slots c.facts-in-loop-meet.ensures.told in
    let then_ = subst2 AreTold c.solution.ensures.parts c.solution.ensures.slots c.facts.ensures.told in
    record {
      rest =
          meet_next p c.args.engine.now.state.slots w.state c.give_meet.new.engine.state _ c.args.meets.now k
          c.loop-meet-test.true (same_places p w.state.slots c.args.engine.now.state.slots m now then_) inv.rest
          (c.give_meet.ensures.state
          ∙ ap (λ q. staffed q w.state (slot_tasks m (length (slot_at w.state.slots m).given))) inv.parts);
      parts = c.give_meet.ensures.parts ∙ inv.parts;
      marks = c.give_meet.ensures.marks;
    }

pub returns : goal.returns
returns g c =
    let inv = c.loop-meet.invariant in
    record {
      state =
          meets_end c.args.engine.now.parts c.args.engine.now.state.slots c.loop-meet.engine.state _ c.args.meets.now
          c.loop-meet.meet-index c.loop-meet-test.false inv.rest;
      parts = inv.parts;
    }
