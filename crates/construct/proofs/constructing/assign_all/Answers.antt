-- One more meet has its turn.
use Rattle.std.proofs.Common.{get_or, ap, ◌∙◌}
use Rattle.khe_engine.specs.Worlds.{World}
use Rattle.construct.proofs.TurnLaws.{timed_end, timed_next, turn}
use Rattle.construct.specs.Choices.{assigns}
use Rattle.construct.proofs.constructing.assign_all.Goals as goal

pub loop-meet-preserved : goal.loop-meet-preserved
loop-meet-preserved g c =
    let p = c.args.engine.now.parts in
    let w = c.loop-meet.engine in
    let k = c.loop-meet.meet-index in
    let inv = c.loop-meet.invariant in
    let found = c.best_time-found.ensures in
    record {
      rest =
          timed_next p w.state c.make.new.engine.state _ c.args.meets.now k c.loop-meet-test.true inv.rest
          (turn p w c.best_time-found.new.engine (λ r. assigns r (get_or c.args.meets.now k 0)) c.best_time-found.result
          c.make.new.engine.state inv.parts found.same found.best c.make.ensures.state);
      parts = c.make.ensures.parts ∙ ap (λ (v : World). v.parts) found.same ∙ inv.parts;
      marks = c.make.ensures.marks;
    }

pub returns : goal.returns
returns g c =
    let inv = c.loop-meet.invariant in
    record {
      state =
          timed_end c.args.engine.now.parts c.loop-meet.engine.state _ c.args.meets.now c.loop-meet.meet-index
          c.loop-meet-test.false inv.rest;
      parts = inv.parts;
      marks = inv.marks;
    }
