use Rattle.std.proofs.Common.{◌∙◌, sym}
use Rattle.resource_monitors.specs.Cells.{lists}
use Rattle.resource_monitors.proofs.WaitLaws.{run_step}
use Rattle.resource_monitors.proofs.cell_waits.lists_one.Goals as goal

pub loop-t-preserved : goal.loop-t-preserved
loop-t-preserved c = run_step (λ t. lists c.args.inst.now c.args.monitor t) c.loop-t.t c.args.end c.loop-t-test.true
    (sym c.lists.ensures ∙ c.if-lists.false) ∙ c.loop-t.invariant
