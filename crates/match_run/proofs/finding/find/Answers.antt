-- The engine's instance is the one that it was opened on.
use Rattle.match_run.proofs.FoundLaws.{fault_by, found_by}
use Rattle.match_run.proofs.finding.find.Goals as goal

pub returns-clause-found : goal.returns-clause-found
returns-clause-found g c =
    let e = c.in_ok-engine.engine in
    found_by c.args.inst.now e.parts c.args.plain.now e.state c.args.time.0 c.args.rtype c.find_on.result
    c.in_ok-engine.ensures.parts c.in_ok-engine.ensures.state c.find_on.ensures.few c.find_on.ensures.matched
    c.find_on.ensures.listed c.find_on.ensures.valid c.find_on.ensures.totals

pub returns-clause-fault : goal.returns-clause-fault
returns-clause-fault g c =
    let e = c.in_ok-engine.engine in
    fault_by c.args.inst.now e.parts c.args.plain.now e.state c.args.time.0 c.args.rtype c.find_on.result
    c.in_ok-engine.ensures.parts c.in_ok-engine.ensures.state c.find_on.ensures.fault
