use Rattle.set_monitors.proofs.RoleLaws.{AreComing}
use Rattle.set_monitors.proofs.role_places.role_places.Given as goal

abbrev pub invariant-loop-event : goal.invariant-loop-event
invariant-loop-event l = AreComing l.inst l.monitor l.events l.list l.event-index
