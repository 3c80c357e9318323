-- The totals and the lists are those of the state.
use Rattle.parallel_repair.proofs.JobLemmas.{answer_is}
use Rattle.parallel_repair.proofs.jobs.answer_of.Goals as goal

pub returns-clause-answer : goal.returns-clause-answer
returns-clause-answer g c =
    let w = c.args.engine.now in
    let e = c.in_ok-plain.ensures in
    answer_is w.parts w.state c.totals-totals.result c.in_ok-plain.plain c.totals-totals.ensures e.state e.valid
