use Rattle.hall_report.specs.Opening.{AreCellsTo}
use Rattle.hall_report.proofs.cells.free_cells.Given as goal

abbrev pub invariant-loop-number : goal.invariant-loop-number
invariant-loop-number l = AreCellsTo l.inst l.number l.cells
