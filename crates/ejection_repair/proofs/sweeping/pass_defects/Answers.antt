use Rattle.std.proofs.Common.{arith}
use Rattle.ejection_repair.specs.Values.{costs_at, defects_from}
use Rattle.ejection_repair.proofs.RoundLaws.{drop_onto, drop_done}
use Rattle.ejection_repair.proofs.sweeping.pass_defects.Goals as goal

pub returns-in-None-clause-count : goal.returns-in-None-clause-count
returns-in-None-clause-count g c =
    let all = defects_from (costs_at c.args.engine.now.parts c.args.engine.now.state) 0 in
    let i = c.loop-done.invariant in
    let h = drop_done all _ c.loop-done.done i.0 c.in-None.ensures.next in omega arith

pub loop-done-preserved : goal.loop-done-preserved
loop-done-preserved g c =
    let all = defects_from (costs_at c.args.engine.now.parts c.args.engine.now.state) 0 in
    drop_onto all _ _ _ c.loop-done.done c.loop-done.invariant.0 c.in-Some.ensures.next
