use Rattle.std.proofs.Common.{◌-◌}
use Rattle.set_monitors.proofs.RoleLaws.{IsSoughtFrom}
use Rattle.set_monitors.proofs.role_places.sought.Given as goal

abbrev pub invariant-loop-low : goal.invariant-loop-low
invariant-loop-low l = IsSoughtFrom l.list l.event.0 l.low l.end

abbrev pub decreases-loop-low : goal.decreases-loop-low
decreases-loop-low l = l.end - l.low
