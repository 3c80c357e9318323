use Rattle.hall_report.specs.Opening.{AreTypeEntries}
use Rattle.hall_report.proofs.resource_sets.whole_entries.Given as goal

abbrev pub invariant-loop-slot : goal.invariant-loop-slot
invariant-loop-slot l = AreTypeEntries l.inst l.slot l.entries.items
