use Rattle.std.proofs.Common.{◌≡◌, length}
use Rattle.hall_report.specs.Sets.{has_both}
use Rattle.hall_report.proofs.SetLaws.{IsUpTo}
use Rattle.hall_report.proofs.sets.common.Given as goal

abbrev pub invariant-loop-n : goal.invariant-loop-n
invariant-loop-n l = (length l.set ≡ length l.one) × IsUpTo (has_both l.one l.other) l.n l.set
