-- The bounds in the table are those of the event; and one more amount.
use Rattle.std.proofs.Common.{length, arith}
use Rattle.construct.proofs.AmountLaws.{amounts_more, bounds_done}
use Rattle.construct.proofs.amounts.amounts_of.Goals as goal

pub amount_of-requires-clause-own : goal.amount_of-requires-clause-own
amount_of-requires-clause-own c = λ info at.
    let w = c.in_ok-table.ensures in
    let many = w.many in
    let end = c.events-number-end.ensures in
    bounds_done c.args.inst.now (length c.args.inst.now.monitors) c.loop-number.number info c.in_ok-table.table.items
    c.index-bounds.result.now w (omega arith) at (omega (arith, many, end, c.loop-number-test.true))
    c.index-bounds.ensures

pub loop-number-preserved : goal.loop-number-preserved
loop-number-preserved c =
    amounts_more c.args.inst.now c.loop-number.number c.loop-number.amounts.items c.push.new.self.items
    c.amount_of.result c.loop-number.invariant c.amount_of.ensures c.in_ok-push.ensures.items
