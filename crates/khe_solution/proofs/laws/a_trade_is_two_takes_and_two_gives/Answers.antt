use Rattle.khe_solution.proofs.StepLaws.{trade_done}
use Rattle.khe_solution.proofs.laws.a_trade_is_two_takes_and_two_gives.Goals as goal

pub returns : goal.returns
returns c = trade_done
