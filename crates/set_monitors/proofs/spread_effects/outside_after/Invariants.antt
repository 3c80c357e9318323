use Rattle.std.proofs.Common.{ℕ, ◌≡◌, ◌≤◌, ◌+◌, ◌*◌, Bool, List, take, drop}
use Rattle.khe_base.specs.declared.limits.TheConstants.{DURATION, GREATEST_DEVIATION, NUMBER}
use Rattle.set_monitors.specs.SpreadEvents.{AreCounts, counted_then, spread_by}
use Rattle.set_monitors.proofs.spread_effects.outside_after.Given as goal

abbrev pub invariant-loop-i : goal.invariant-loop-i
invariant-loop-i l = record {
  follows : (f : List Bool → ℕ) → AreCounts f l.spreads l.counts → l.outside ≡ spread_by f l.spreads
      → l.total ≡ spread_by (λ g. counted_then (counted_then (f g) g l.shifts.first.before l.shifts.first.after) g
      l.shifts.second.before l.shifts.second.after) (take l.i l.spreads) + spread_by f (drop l.i l.spreads);
  bound : l.total ≤ GREATEST_DEVIATION + l.i * (DURATION + NUMBER + 2);
}
