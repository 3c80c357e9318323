use Rattle.time_match.specs.Costs.{no_task}
use Rattle.resource_match.specs.Prices.{no_price}
use Rattle.match_run.proofs.LineLaws.{tasks_done, tasks_next}
use Rattle.match_run.proofs.lines.push_tasks.Goals as goal

pub loop-k-preserved : goal.loop-k-preserved
loop-k-preserved c =
    tasks_next c.args.resources.now c.args.tasks.now c.args.choice.now c.args.prices.now c.loop-k.k no_task no_price
    c.loop-k.line c.push_task_line.new.line _ c.loop-k-test.true c.requires.each c.requires.priced c.loop-k.invariant
    c.in_ok-push_task_line.ensures

pub returns : goal.returns
returns c =
    tasks_done c.args.resources.now c.args.tasks.now c.args.choice.now c.args.prices.now c.loop-k.k c.loop-k.line _
    c.loop-k-test.false c.loop-k.invariant
