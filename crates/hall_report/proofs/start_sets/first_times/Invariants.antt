use Rattle.std.proofs.Common.{◌≡◌, length, ltb}
use Rattle.hall_report.proofs.SetLaws.{IsUpTo}
use Rattle.hall_report.proofs.start_sets.first_times.Given as goal

abbrev pub invariant-loop-time : goal.invariant-loop-time
invariant-loop-time l = (length l.set ≡ l.times) × IsUpTo (λ t. ltb t l.count) l.time l.set
