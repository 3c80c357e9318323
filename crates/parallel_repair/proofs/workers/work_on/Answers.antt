-- The worker goes on, or has ended.
use Rattle.parallel_repair.specs.Turns.{budget}
use Rattle.parallel_repair.proofs.TurnLemmas.{own_budget}
use Rattle.parallel_repair.proofs.workers.work_on.Goals as goal

pub take_job-requires-clause-work : goal.take_job-requires-clause-work
take_job-requires-clause-work g c κs within =
    let found = c.jobs.found in
    own_budget (g.W.Work.answer c.args.work.now) c.args.jobs (budget c.args.seat.me.0) found.seat.me.0 found.rows.items
    found.best c.jobs.invariant.work
