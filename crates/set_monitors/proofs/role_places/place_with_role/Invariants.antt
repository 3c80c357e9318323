use Rattle.set_monitors.proofs.RoleLaws.{AreOthers}
use Rattle.set_monitors.proofs.role_places.place_with_role.Given as goal

abbrev pub invariant-loop-k : goal.invariant-loop-k
invariant-loop-k l = AreOthers l.inst l.fn.monitor l.fn.event.0 l.k
