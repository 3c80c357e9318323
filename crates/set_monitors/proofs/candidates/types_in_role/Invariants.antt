use Rattle.set_monitors.proofs.CandidateLaws.{AreFound}
use Rattle.set_monitors.proofs.candidates.types_in_role.Given as goal

abbrev pub invariant-loop-event : goal.invariant-loop-event
invariant-loop-event l = AreFound l.inst l.monitor l.events l.types l.event-index
