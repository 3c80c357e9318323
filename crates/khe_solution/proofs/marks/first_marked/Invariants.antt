use Rattle.std.proofs.Common.{◌*◌, ◌-◌, ◌≤◌}
use Rattle.khe_solution.specs.FreeBits.{AreClear}
use Rattle.khe_solution.proofs.marks.first_marked.Given as goal

abbrev pub invariant-loop-next : goal.invariant-loop-next
invariant-loop-next l = record { after : l.from ≤ 64 * l.next; clear : AreClear l.words l.from (64 * l.next) }

abbrev pub decreases-loop-next : goal.decreases-loop-next
decreases-loop-next l = l.end - l.next
