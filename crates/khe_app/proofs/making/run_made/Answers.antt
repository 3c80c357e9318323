-- The archive is the one that was made, so it is resolved or memory ran out.
use Rattle.khe_app.proofs.MakeEnds.{made_few, not_refused}
use Rattle.archive_reading.proofs.ReadyLemmas.{ready}
use Rattle.khe_app.proofs.making.run_made.Goals as goal

pub resolve-requires-clause-few : goal.resolve-requires-clause-few
resolve-requires-clause-few g c = made_few c.args.seed c.args.size c.args.archive.now c.requires.made

pub run_resolved-status-requires-clause-ready : goal.run_resolved-status-requires-clause-ready
run_resolved-status-requires-clause-ready g c =
    ready c.args.archive.now c.in-Ok.resolved c.in-Ok.ensures.exact c.requires.formed
    (made_few c.args.seed c.args.size c.args.archive.now c.requires.made)

pub not_resolved-requires : goal.not_resolved-requires
not_resolved-requires g c =
    not_refused c.args.seed c.args.size c.args.archive.now c.in-Err.fault c.requires.size.0 c.requires.size.1
    c.requires.made c.in-Err.ensures.fault
