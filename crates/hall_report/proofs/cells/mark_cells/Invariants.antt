use Rattle.hall_report.specs.Opening.{AreMarkedTo}
use Rattle.hall_report.proofs.cells.mark_cells.Given as goal

abbrev pub invariant-loop-time : goal.invariant-loop-time
invariant-loop-time l = AreMarkedTo l.first l.time l.times l.fn.cells l.cells
