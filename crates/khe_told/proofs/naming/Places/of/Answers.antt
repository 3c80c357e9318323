use Rattle.khe_told.proofs.NamingLaws.{named_all, named_more}
use Rattle.khe_told.proofs.naming.Places.of.Goals as goal

pub loop-change-preserved : goal.loop-change-preserved
loop-change-preserved c = named_more c.loop-change.places c.with_change-places.result c.args.changes.now
    c.loop-change.change-index _ c.loop-change-test.true c.loop-change.invariant c.with_change-places.ensures

pub returns : goal.returns
returns c = λ s k. named_all c.loop-change.places c.args.changes.now c.loop-change.change-index s k
    c.loop-change-test.false c.loop-change.invariant
