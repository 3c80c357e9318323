use Rattle.time_match.proofs.StripLaws.{IsStripped}
use Rattle.time_match.proofs.making.strip.Given as goal

abbrev pub invariant-loop-task : goal.invariant-loop-task
invariant-loop-task g l = IsStripped l.fn.engine l.engine l.tasks l.task-index
