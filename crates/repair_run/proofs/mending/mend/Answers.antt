-- The engine's instance is the one that it was opened on.
use Rattle.repair_run.proofs.MendedLaws.{mended_by}
use Rattle.repair_run.proofs.mending.mend.Goals as goal

pub returns-clause-mended : goal.returns-clause-mended
returns-clause-mended g c =
    let e = c.in_ok-engine.engine in
    mended_by c.args.inst.now e.parts c.args.plain.now e.state c.args.depth c.args.budget c.mend_on.result
    c.in_ok-engine.ensures.parts c.in_ok-engine.ensures.state c.mend_on.ensures.outcome c.mend_on.ensures.listed
    c.mend_on.ensures.totals
