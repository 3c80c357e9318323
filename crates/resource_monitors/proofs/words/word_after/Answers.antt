-- Run by run.
use Rattle.khe_base.specs.Bits.{has_bit}
use Rattle.timetables.specs.Counts.{count_at}
use Rattle.resource_monitors.proofs.ShiftLaws.{bits_after}
use Rattle.resource_monitors.proofs.words.word_after.Goals as goal

pub returns : goal.returns
returns c = λ i below. bits_after c.args.shifts (count_at c.args.table.now c.args.r.0) i
    (has_bit c.word-busy.result i) (has_bit c.with_run-one.result i) (has_bit c.with_run-two.result i)
    (has_bit c.with_run-three.result i) (has_bit c.with_run.result i) (c.word-busy.ensures i below)
    (c.with_run-one.ensures i below) (c.with_run-two.ensures i below) (c.with_run-three.ensures i below)
    (c.with_run.ensures i below)
