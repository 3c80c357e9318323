-- The times so far have one more.
use Rattle.resource_deviations.proofs.TableLemmas.{Covered}
use Rattle.resource_deviations.proofs.filling.occupy.Given as goal

abbrev pub invariant-loop-t : goal.invariant-loop-t
invariant-loop-t l = Covered l.fn.table l.table l.resource.0 l.fn.start.0 l.t
