-- The only mark is where the engine goes back to.
use Rattle.parallel_repair.proofs.JobLemmas.{back_at}
use Rattle.parallel_repair.proofs.jobs.go_back.Goals as goal

pub returns-clause-marked : goal.returns-clause-marked
returns-clause-marked g c = λ s e. back_at c.args.engine.now.saved s _ e c.in-Ok.ensures.ok
