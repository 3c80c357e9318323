use Rattle.khe_solution.proofs.StepLaws.{move_done, move_accepted}
use Rattle.khe_solution.proofs.laws.a_move_is_a_lift_and_a_placing.Goals as goal

pub returns-clause-does : goal.returns-clause-does
returns-clause-does c = move_done

pub returns-clause-accepted : goal.returns-clause-accepted
returns-clause-accepted c = move_accepted
