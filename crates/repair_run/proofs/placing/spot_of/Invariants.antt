-- The solution stands in the groups that are left.
use Rattle.repair_run.proofs.FoundLaws.{IsAhead}
use Rattle.repair_run.proofs.placing.spot_of.Given as goal

abbrev pub invariant-loop-group : goal.invariant-loop-group
invariant-loop-group l = IsAhead l.groups l.fn.number l.group l.left
