use Rattle.hall_report.specs.Opening.{AreStartsTo}
use Rattle.hall_report.proofs.start_sets.narrow_all.Given as goal

abbrev pub invariant-loop-number : goal.invariant-loop-number
invariant-loop-number l = AreStartsTo l.inst l.number l.starts.sets l.starts.entries.items
