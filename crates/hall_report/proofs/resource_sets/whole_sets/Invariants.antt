use Rattle.hall_report.specs.Opening.{AreTypeSets}
use Rattle.hall_report.proofs.resource_sets.whole_sets.Given as goal

abbrev pub invariant-loop-rtype : goal.invariant-loop-rtype
invariant-loop-rtype l = AreTypeSets l.inst l.rtype l.sets
