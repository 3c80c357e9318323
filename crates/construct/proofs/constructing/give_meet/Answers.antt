-- One more task has its turn.
use Rattle.std.proofs.Common.{length, refl, ap, arith, ◌∙◌}
use Rattle.khe_engine.specs.Worlds.{World}
use Rattle.khe_told.specs.Slots.{slot_at}
use Rattle.construct.proofs.TurnLaws.{staffed_end, staffed_next, task_in, tasks_start, turn}
use Rattle.construct.specs.Choices.{gives}
use Rattle.construct.specs.Constructed.{staffed}
use Rattle.construct.proofs.constructing.give_meet.Goals as goal

pub loop-place-init : goal.loop-place-init
loop-place-init g c =
    let w = c.args.engine.now in
    record {
      rest =
          ap (staffed w.parts w.state)
          (tasks_start c.args.meet.0 (length (slot_at w.state.slots c.args.meet.0).given));
      parts = refl;
      marks = c.requires.marks;
    }

pub loop-place-preserved : goal.loop-place-preserved
loop-place-preserved g c =
    let p = c.args.engine.now.parts in
    let w = c.loop-place.engine in
    let k = c.loop-place.place in
    let n = length (slot_at c.args.engine.now.state.slots c.args.meet.0).given in
    let inv = c.loop-place.invariant in
    let found = c.best_resource-found.ensures in
    let end = c.places_of-place-end.ensures in
    record {
      rest =
          staffed_next p w.state c.make.new.engine.state _ c.args.meet.0 k n (omega (arith, end, c.loop-place-test.true))
          inv.rest
          (turn p w c.best_resource-found.new.engine (λ r. gives r (task_in c.args.meet.0 k)) c.best_resource-found.result
          c.make.new.engine.state inv.parts found.same found.best c.make.ensures.state);
      parts = c.make.ensures.parts ∙ ap (λ (v : World). v.parts) found.same ∙ inv.parts;
      marks = c.make.ensures.marks;
    }

pub returns : goal.returns
returns g c =
    let n = length (slot_at c.args.engine.now.state.slots c.args.meet.0).given in
    let inv = c.loop-place.invariant in
    let end = c.places_of-place-end.ensures in
    record {
      state =
          staffed_end c.args.engine.now.parts c.loop-place.engine.state _ c.args.meet.0 c.loop-place.place n
          (omega (arith, end, c.loop-place-test.false)) inv.rest;
      parts = inv.parts;
      marks = inv.marks;
    }
