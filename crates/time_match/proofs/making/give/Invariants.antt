use Rattle.time_match.proofs.GiveLaws.{AreGiven}
use Rattle.time_match.proofs.making.give.Given as goal

abbrev pub invariant-loop-k : goal.invariant-loop-k
invariant-loop-k g l = AreGiven l.fn.engine l.engine l.resources l.tasks l.choice l.k
