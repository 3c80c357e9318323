use Rattle.std.proofs.Common.{◌≡◌}
use Rattle.hall_report.specs.Units.{walk}
use Rattle.hall_report.proofs.units.after.Given as goal

abbrev pub invariant-loop-more : goal.invariant-loop-more
invariant-loop-more l = l.at ≡ walk l.next l.unit l._more
