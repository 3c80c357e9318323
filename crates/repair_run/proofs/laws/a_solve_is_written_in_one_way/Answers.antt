-- The least result is one.
use Rattle.repair_run.proofs.SolvedLaws.{one_way}
use Rattle.repair_run.proofs.laws.a_solve_is_written_in_one_way.Goals as goal

pub returns : goal.returns
returns c = one_way
