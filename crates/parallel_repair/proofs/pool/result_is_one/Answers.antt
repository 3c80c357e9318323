-- The least result is one.
use Rattle.parallel_repair.proofs.SolvedLemmas.{same_solved}
use Rattle.parallel_repair.proofs.pool.result_is_one.Goals as goal

pub returns : goal.returns
returns c = same_solved
