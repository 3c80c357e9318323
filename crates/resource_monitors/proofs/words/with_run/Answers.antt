-- One more time.
use Rattle.std.proofs.Common.{◌≡◌, ◌∙◌, ap, cond, nat_lt, nat_eq, arith}
use Rattle.khe_base.specs.Bits.{has_bit}
use Rattle.timetables.specs.Counts.{count_at}
use Rattle.resource_monitors.specs.Cells.{in_run}
use Rattle.resource_monitors.specs.Shifts.{after_both}
use Rattle.resource_monitors.proofs.ShiftLaws.{run_more, run_none}
use Rattle.resource_monitors.proofs.words.with_run.Goals as goal

pub loop-t-init : goal.loop-t-init
loop-t-init c = λ i below. run_none c.args.run.start i (nat_lt 0 (after_both c.args.shifts
    (count_at c.args.table.now c.args.r.0) i)) (has_bit c.args.bits i)

pub loop-t-preserved : goal.loop-t-preserved
loop-t-preserved c = λ i below. run_more c.args.run.start c.loop-t.t i c.loop-t.auto.t
    (λ u. nat_lt 0 (after_both c.args.shifts (count_at c.args.table.now c.args.r.0) u))
    (has_bit c.args.bits i) (has_bit c.loop-t.word i) (has_bit c.with_bit-word.result i)
    (c.loop-t.invariant i below)
    (c.with_bit-word.ensures i below ∙ ap (λ b. cond (nat_eq i c.loop-t.t) b (has_bit c.loop-t.word i))
    c.is_busy_after.ensures)

pub returns : goal.returns
returns c = λ i below.
    (let l = c.loop-t-test.false in
    let m = c.loop-t.auto.t-end c.requires.order in
    let e : c.loop-t.t ≡ c.args.run.end = omega (arith, l, m) in
    c.loop-t.invariant i below ∙ ap (λ n. cond (in_run c.args.run.start n i)
    (nat_lt 0 (after_both c.args.shifts (count_at c.args.table.now c.args.r.0) i)) (has_bit c.args.bits i)) e)
