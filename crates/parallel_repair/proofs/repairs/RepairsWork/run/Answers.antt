-- The engine is at the timetable's state.
use Rattle.parallel_repair.proofs.JobLemmas.{from_desk}
use Rattle.parallel_repair.proofs.repairs.RepairsWork.run.Goals as goal

pub returns-clause-answer : goal.returns-clause-answer
returns-clause-answer g c =
    let w = c.args.self.now in
    from_desk w.inst.now w.start.now c.args.desk.now w.depth w.budget c.args.job c.run_job.result c.requires.1
    c.run_job.ensures.answer
