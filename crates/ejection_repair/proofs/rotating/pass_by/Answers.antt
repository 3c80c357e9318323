use Rattle.std.proofs.Common.{arith}
use Rattle.repair_moves.specs.Cursors.{ahead}
use Rattle.ejection_repair.proofs.RoundLaws.{drop_onto, drop_done}
use Rattle.ejection_repair.proofs.rotating.pass_by.Goals as goal

pub returns-in-None-clause-count : goal.returns-in-None-clause-count
returns-in-None-clause-count c =
    let i = c.loop-done.invariant in
    let h = drop_done (ahead c.args.inst.now c.args.solution.now.slots c.args.first) _ c.loop-done.done i.0
    c.in-None.ensures.next.0 in omega arith

pub loop-done-preserved : goal.loop-done-preserved
loop-done-preserved c =
    let i = c.loop-done.invariant in
    let r = drop_onto (ahead c.args.inst.now c.args.solution.now.slots c.args.first) _ _ _ c.loop-done.done i.0
    c.in-Some.ensures.next in
    (r.0, r.1, c.in-Some.ensures.cursor)
