use Rattle.set_monitors.proofs.CandidateLaws.{AreAdding}
use Rattle.set_monitors.proofs.candidates.add_types.Given as goal

abbrev pub invariant-loop-place : goal.invariant-loop-place
invariant-loop-place l = AreAdding l.inst.types l.rule l.places l.fn.types l.types l.place-index
