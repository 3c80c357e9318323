-- With a repair or without.
use Rattle.khe_app.proofs.ConstructEnds.{alone_text, repaired_text}
use Rattle.khe_app.proofs.constructing.put_with.Goals as goal

pub returns-in-None-clause-written : goal.returns-in-None-clause-written
returns-in-None-clause-written g c =
    alone_text c.args.archive.now c.args.inst.now c.args.chains _ _ _ _ c.put_alone.result.0 c.in-None.is
    c.put_alone.ensures.written

pub returns-in-Some-clause-written : goal.returns-in-Some-clause-written
returns-in-Some-clause-written g c =
    repaired_text c.args.archive.now c.args.inst.now c.args.chains c.in-Some.depth c.in-Some.budget _ _ _ _
    c.put_repaired.result.0 c.in-Some.is c.put_repaired.ensures.written
