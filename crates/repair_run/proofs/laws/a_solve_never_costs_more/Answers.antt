-- By the laws of repair, at the job with the least result.
use Rattle.repair_run.proofs.SolvedLaws.{least}
use Rattle.repair_run.proofs.laws.a_solve_never_costs_more.Goals as goal

pub returns : goal.returns
returns c = least
