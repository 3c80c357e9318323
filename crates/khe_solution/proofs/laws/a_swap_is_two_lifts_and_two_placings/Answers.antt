use Rattle.khe_solution.proofs.StepLaws.{swap_done}
use Rattle.khe_solution.proofs.laws.a_swap_is_two_lifts_and_two_placings.Goals as goal

pub returns : goal.returns
returns c = swap_done
