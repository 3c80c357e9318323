use Rattle.khe_solution.proofs.StepLaws.{regive_done, regive_accepted}
use Rattle.khe_solution.proofs.laws.a_regive_is_a_take_and_a_give.Goals as goal

pub returns-clause-does : goal.returns-clause-does
returns-clause-does c = regive_done

pub returns-clause-accepted : goal.returns-clause-accepted
returns-clause-accepted c = regive_accepted
