use Rattle.std.proofs.Common.{length}
use Rattle.khe_instance.specs.declared.rules.Rule.TheVariants.{PreferTimes}
use Rattle.hall_report.specs.Opening.{AreNarrowedBy}
use Rattle.hall_report.specs.Sets.{AreSets}
use Rattle.hall_report.proofs.start_sets.narrow_event.Given as goal

abbrev pub invariant-loop-more : goal.invariant-loop-more
invariant-loop-more l =
    AreSets l.shared (length l.times) l.starts.sets l.starts.entries.items
    × AreNarrowedBy (PreferTimes l.times l.only) l.first l.more l.fn.starts.sets l.fn.starts.entries.items
    l.starts.sets l.starts.entries.items
