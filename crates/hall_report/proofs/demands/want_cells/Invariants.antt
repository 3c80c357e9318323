use Rattle.std.proofs.Common.{take}
use Rattle.hall_report.specs.Opening.{AreWanted}
use Rattle.hall_report.proofs.demands.want_cells.Given as goal

abbrev pub invariant-loop-more : goal.invariant-loop-more
invariant-loop-more l = AreWanted l.times l.first (take l.more l.cells) l.fn.matching l.matching
