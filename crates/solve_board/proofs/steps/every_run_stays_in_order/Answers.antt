-- The state without workers is in order, and each event keeps the order.
use Rattle.solve_board.specs.Runs.{nobody}
use Rattle.solve_board.proofs.OrderLemmas.{run_order, nobody_order}
use Rattle.solve_board.proofs.steps.every_run_stays_in_order.Goals as goal

pub returns : goal.returns
returns c = λ events run. run_order events nobody run nobody_order
