use Rattle.khe_solution.specs.TaskRows.{AreEntered}
use Rattle.khe_solution.proofs.tasks.enter_all.Given as goal

abbrev pub invariant-loop-slot : goal.invariant-loop-slot
invariant-loop-slot l = AreEntered l.told l.slot l.rows
