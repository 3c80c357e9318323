use Rattle.std.proofs.Common.{ap, get_or, ◌∙◌}
use Rattle.khe_engine.specs.Worlds.{World}
use Rattle.time_match.specs.Costs.{cost_with, no_resource}
use Rattle.time_match.proofs.AskLaws.{row_next, small_next}
use Rattle.time_match.proofs.asking.push_row.Goals as goal

pub loop-resource-preserved : goal.loop-resource-preserved
loop-resource-preserved g c =
    let w = c.args.engine.now in
    let v = c.loop-resource.invariant in
    let x = c.totals_after.ensures in
    let made = c.in_ok-push.ensures.ok in
    record {
      pairs = row_next w.parts w.state c.args.task c.args.resources.now c.loop-resource.resource-index no_resource
          c.args.pairs.now c.loop-resource.pairs c.push.new.self c.totals_after.result c.loop-resource-test.true v.pairs
          (x.is ∙ ap (λ (u : World). cost_with u.parts u.state c.args.task
          (get_or c.args.resources.now c.loop-resource.resource-index no_resource)) v.same) made;
      small = small_next c.loop-resource.pairs c.push.new.self c.totals_after.result v.small x.small made;
      same = x.same ∙ v.same;
    }
