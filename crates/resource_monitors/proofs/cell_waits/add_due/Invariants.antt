use Rattle.std.proofs.Common.{◌≡◌, ◌≤◌, length}
use Rattle.resource_monitors.specs.Cells.{is_due_if}
use Rattle.resource_monitors.proofs.WaitLaws.{AreAddedFrom}
use Rattle.resource_monitors.proofs.cell_waits.add_due.Given as goal

abbrev pub invariant-loop-place : goal.invariant-loop-place
invariant-loop-place g l =
    record {
      within : l.place ≤ length l.list;
      same : g.W.Waits.monitors l.waits ≡ g.W.Waits.monitors l.fn.waits;
      added : AreAddedFrom (is_due_if l.inst l.start l.end l.low) l.list l.place (g.W.Waits.waits l.fn.waits)
          (g.W.Waits.waits l.waits);
    }

abbrev pub decreases-loop-place : goal.decreases-loop-place
decreases-loop-place g l = l.place
