use Rattle.std.proofs.Common.{◌≡◌, length}
use Rattle.khe_told.specs.Waits.{waits_in}
use Rattle.khe_engine.specs.Lower.{AreOpen}
use Rattle.khe_engine.proofs.measuring.is_lower_measured.Given as goal

abbrev pub invariant-loop-lowest : goal.invariant-loop-lowest
invariant-loop-lowest g l = record {
  monitors : length l.waiting.flags ≡ length l.inst.monitors;
  open_ : AreOpen l.inst (waits_in l.waiting) (g.D.Deviations.slots l.deviations) l.graph l.totals;
}

abbrev pub decreases-loop-lowest : goal.decreases-loop-lowest
decreases-loop-lowest g l = l.waiting.amount
