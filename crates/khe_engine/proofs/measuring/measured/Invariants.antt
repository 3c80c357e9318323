use Rattle.std.proofs.Common.{◌≡◌, length}
use Rattle.khe_told.specs.Waits.{waits_in}
use Rattle.khe_engine.proofs.TrialLaws.{AreUnderWay}
use Rattle.khe_engine.proofs.measuring.measured.Given as goal

abbrev pub invariant-loop-monitor : goal.invariant-loop-monitor
invariant-loop-monitor g l = record {
  monitors : length l.waiting.flags ≡ length l.inst.monitors;
  way : AreUnderWay l.inst (waits_in l.waiting) (g.D.Deviations.slots l.deviations) l.graph l.totals;
}

abbrev pub decreases-loop-monitor : goal.decreases-loop-monitor
decreases-loop-monitor g l = l.waiting.amount
