use Rattle.resource_monitors.specs.Cells.{AreRaised}
use Rattle.resource_monitors.proofs.cell_turns.free.Given as goal

abbrev pub invariant-loop-t : goal.invariant-loop-t
invariant-loop-t l = AreRaised l.r.0 l.fn.start l.t l.table l.fn.table
