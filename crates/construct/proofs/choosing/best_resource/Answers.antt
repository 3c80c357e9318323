-- One more is looked at; and what is found in the end.
use Rattle.std.proofs.Common.{length, refl, ap, arith, ◌∙◌}
use Rattle.khe_engine.specs.Worlds.{World}
use Rattle.khe_instance.specs.declared.parts.Parts.{Parts}
use Rattle.construct.proofs.LookLaws.{all_resources, give_at, looked_all, looked_more, looked_move, looked_start}
use Rattle.construct.specs.Best.{improved}
use Rattle.construct.proofs.choosing.best_resource.Goals as goal

pub loop-number-init : goal.loop-number-init
loop-number-init g c =
    let w = c.args.engine.now in
    record {
      looked =
          looked_start (give_at c.args.task) w.parts w.state (length w.parts.resources) c.no_edit-best.result
          c.no_edit-best.ensures;
      same = refl;
    }

pub loop-number-preserved : goal.loop-number-preserved
loop-number-preserved g c =
    let w = c.args.engine.now in
    let k = c.loop-number.number in
    let b = c.loop-number.best in
    let f = give_at c.args.task in
    let inv = c.loop-number.invariant in
    let many = c.resources-number-end.ensures in
    let whose = ap (λ (q : Parts). length q.resources) c.instance.ensures in
    record {
      looked =
          looked_more f w.parts w.state k (length w.parts.resources) b c.look.new.best
          (omega (arith, many, whose, c.loop-number-test.true)) inv.looked
          (c.look.ensures.best ∙ ap (λ (v : World). improved v.parts v.state b (f k)) inv.same);
      same = c.look.ensures.same ∙ inv.same;
    }

pub returns : goal.returns
returns g c =
    let w = c.args.engine.now in
    let k = c.loop-number.number in
    let b = c.loop-number.best in
    let f = give_at c.args.task in
    let inv = c.loop-number.invariant in
    let many = c.resources-number-end.ensures in
    let whose = ap (λ (q : Parts). length q.resources) c.instance.ensures in
    record {
      best =
          looked_all f w.parts w.state k (length w.parts.resources) b (omega (arith, many, whose, c.loop-number-test.false))
          inv.looked ∙ all_resources w.parts w.state c.args.task;
      move_ =
          looked_move f w.parts w.state k (length w.parts.resources) b (λ j. refl)
          (omega (arith, many, whose, c.loop-number-test.false)) inv.looked;
      same = inv.same;
    }
