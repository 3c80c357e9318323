-- The timetable is that of the first solution, in its instance.
use Rattle.archive_reading.specs.Starting.{start_of}
use Rattle.khe_app.proofs.MakeEnds.{only_starved, run_of_start, start_made}
use Rattle.khe_app.proofs.making.run_resolved.Goals as goal

pub returns-in-Ok-clause-written : goal.returns-in-Ok-clause-written
returns-in-Ok-clause-written g c =
    let b = c.in-Ok.ensures.begun in
    run_of_start c.args.job.seed c.args.job.size c.args.archive.now c.args.resolved.now c.in-Ok.instance b.0
    c.instance_numbered-inst.result.now c.in-Ok.plain _ _ _ _ c.put_run-status.result.0 c.requires.made
    c.requires.ready.resolved_is b.1 c.instance_numbered-inst.ensures b.3 c.put_run-status.ensures.written

pub not_begun-requires : goal.not_begun-requires
not_begun-requires g c =
    only_starved (start_of c.args.archive.now c.args.resolved.now 0) c.in-Err.unread
    (start_made c.args.job.seed c.args.job.size c.args.archive.now c.args.resolved.now c.requires.size.0
    c.requires.size.1 c.requires.made c.requires.ready.resolved_is) c.in-Err.ensures.barred
