use Rattle.std.proofs.Common.{length}
use Rattle.hall_report.specs.Opening.{AreStartEntries}
use Rattle.hall_report.proofs.start_sets.whole_entries.Given as goal

abbrev pub invariant-loop-slot : goal.invariant-loop-slot
invariant-loop-slot l = AreStartEntries l.inst.events (length l.inst.times) l.slot l.entries.items
