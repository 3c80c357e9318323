use Rattle.hall_report.specs.Opening.{AreResourcesTo}
use Rattle.hall_report.proofs.resource_sets.narrow_all.Given as goal

abbrev pub invariant-loop-number : goal.invariant-loop-number
invariant-loop-number l = AreResourcesTo l.inst l.number l.found.sets l.found.entries.items
