use Rattle.hall_report.specs.Opening.{AreWholeStarts}
use Rattle.hall_report.proofs.start_sets.whole_sets.Given as goal

abbrev pub invariant-loop-duration : goal.invariant-loop-duration
invariant-loop-duration l = AreWholeStarts l.times l.duration l.sets
