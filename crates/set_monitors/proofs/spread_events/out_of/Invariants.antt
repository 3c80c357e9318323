use Rattle.std.proofs.Common.{ℕ, ◌≡◌, ◌≤◌, ◌+◌, ◌*◌, Bool, List, take}
use Rattle.khe_base.specs.declared.limits.TheConstants.{DURATION, NUMBER}
use Rattle.set_monitors.specs.SpreadEvents.{AreCounts, spread_by}
use Rattle.set_monitors.proofs.spread_events.out_of.Given as goal

abbrev pub invariant-loop-i : goal.invariant-loop-i
invariant-loop-i l = record {
  outside : (f : List Bool → ℕ) → AreCounts f l.spreads l.counts → l.total ≡ spread_by f (take l.i l.spreads);
  bound : l.total ≤ l.i * (DURATION + NUMBER);
}
