-- One more is looked at; and what is found in the end.
use Rattle.std.proofs.Common.{length, refl, ap, arith, ◌∙◌}
use Rattle.khe_engine.specs.Worlds.{World}
use Rattle.khe_instance.specs.declared.parts.Parts.{Parts}
use Rattle.construct.proofs.LookLaws.{all_times, assign_at, looked_all, looked_more, looked_move, looked_start}
use Rattle.construct.specs.Best.{improved}
use Rattle.construct.proofs.choosing.best_time.Goals as goal

pub loop-number-init : goal.loop-number-init
loop-number-init g c =
    let w = c.args.engine.now in
    record {
      looked =
          looked_start (assign_at c.args.meet.0) w.parts w.state (length w.parts.times) c.no_edit-best.result
          c.no_edit-best.ensures;
      same = refl;
    }

pub loop-number-preserved : goal.loop-number-preserved
loop-number-preserved g c =
    let w = c.args.engine.now in
    let k = c.loop-number.number in
    let b = c.loop-number.best in
    let f = assign_at c.args.meet.0 in
    let inv = c.loop-number.invariant in
    let many = c.times-number-end.ensures in
    let whose = ap (λ (q : Parts). length q.times) c.instance.ensures in
    record {
      looked =
          looked_more f w.parts w.state k (length w.parts.times) b c.look.new.best
          (omega (arith, many, whose, c.loop-number-test.true)) inv.looked
          (c.look.ensures.best ∙ ap (λ (v : World). improved v.parts v.state b (f k)) inv.same);
      same = c.look.ensures.same ∙ inv.same;
    }

pub returns : goal.returns
returns g c =
    let w = c.args.engine.now in
    let k = c.loop-number.number in
    let b = c.loop-number.best in
    let f = assign_at c.args.meet.0 in
    let inv = c.loop-number.invariant in
    let many = c.times-number-end.ensures in
    let whose = ap (λ (q : Parts). length q.times) c.instance.ensures in
    record {
      best =
          looked_all f w.parts w.state k (length w.parts.times) b (omega (arith, many, whose, c.loop-number-test.false))
          inv.looked ∙ all_times w.parts w.state c.args.meet.0;
      move_ =
          looked_move f w.parts w.state k (length w.parts.times) b (λ j. refl)
          (omega (arith, many, whose, c.loop-number-test.false)) inv.looked;
      same = inv.same;
    }
