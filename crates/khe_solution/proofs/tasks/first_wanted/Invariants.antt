use Rattle.std.proofs.Common.{◌-◌, ◌≤◌}
use Rattle.khe_solution.specs.TaskRows.{AreUnwanted}
use Rattle.khe_solution.proofs.tasks.first_wanted.Given as goal

abbrev pub invariant-loop-next : goal.invariant-loop-next
invariant-loop-next l = record { after : l.from ≤ l.next; clear : AreUnwanted l.told l.wanted l.from l.next }

abbrev pub decreases-loop-next : goal.decreases-loop-next
decreases-loop-next l = l.end - l.next
