use Rattle.time_match.specs.Costs.{no_resource}
use Rattle.resource_match.specs.Prices.{no_price}
use Rattle.match_run.proofs.LineLaws.{resources_done, resources_next}
use Rattle.match_run.proofs.lines.push_resources.Goals as goal

pub loop-k-preserved : goal.loop-k-preserved
loop-k-preserved c =
    resources_next c.args.resources.now c.args.prices.now c.loop-k.k no_resource no_price c.loop-k.line
    c.push_resource.new.line _ c.loop-k-test.true c.requires c.loop-k.invariant c.in_ok-push_resource.ensures

pub returns : goal.returns
returns c =
    resources_done c.args.resources.now c.args.prices.now c.loop-k.k c.loop-k.line _ c.loop-k-test.false
    c.loop-k.invariant
