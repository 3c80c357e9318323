-- The engine is at the timetable's only state.
use Rattle.parallel_repair.proofs.JobLemmas.{opened_at}
use Rattle.parallel_repair.proofs.jobs.open_marked.Goals as goal

pub returns-clause-marked : goal.returns-clause-marked
returns-clause-marked g c =
    let o = c.in_ok-engine.ensures in
    let b = c.in-Ok.ensures in
    opened_at c.args.inst.now c.args.start.now c.in_ok-engine.engine _ c.facts.ensures o.state o.saved b.state b.ok
