use Rattle.std.proofs.Common.{◌∙◌, sym, nat_le, ap}
use Rattle.std.proofs.lemmas.Bool.{lt-leb}
use Rattle.timetables.specs.Counts.{count_at}
use Rattle.resource_monitors.proofs.WaitLaws.{run_step}
use Rattle.resource_monitors.proofs.cell_waits.is_low.Goals as goal

pub loop-t-preserved : goal.loop-t-preserved
loop-t-preserved c = run_step (λ t. nat_le (count_at c.args.table.now c.args.r.0 t) c.args.limit) c.loop-t.t c.args.end
    c.loop-t-test.true (sym (ap (λ n. nat_le n c.args.limit) c.count.ensures)
    ∙ lt-leb c.count.result c.args.limit c.if-count-limit.false) ∙ c.loop-t.invariant
