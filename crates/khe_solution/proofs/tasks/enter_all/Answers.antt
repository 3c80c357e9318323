use Rattle.std.proofs.Common.{arith}
use Rattle.khe_solution.proofs.KeptLaws.{entered_all}
use Rattle.khe_solution.proofs.Spans.{slots_few}
use Rattle.khe_solution.proofs.tasks.enter_all.Goals as goal

pub overflow_cast-slot : goal.overflow_cast-slot
overflow_cast-slot c =
    let a = slots_few c.args.inst.now c.args.told.now c.requires.told c.facts.ensures in
    let b = c.len-slot-end.ensures in
    let d = c.loop-slot-test.true in
    omega (arith, a, b, d)

pub returns : goal.returns
returns c =
    let b = c.len-slot-end.ensures in
    let d = c.loop-slot-test.false in
    entered_all c.args.told.now c.loop-slot.slot c.loop-slot.rows (omega (arith, b, d)) c.loop-slot.invariant
