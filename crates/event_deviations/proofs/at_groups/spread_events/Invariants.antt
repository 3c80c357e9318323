use Rattle.std.proofs.Common.{◌≡◌, ◌≤◌, ◌*◌, ◌+◌, take}
use Rattle.khe_base.specs.declared.limits.TheConstants.{NUMBER, DURATION}
use Rattle.event_deviations.specs.Groups.{spread_over}
use Rattle.event_deviations.proofs.at_groups.spread_events.Given as goal

abbrev pub invariant-loop-spread : goal.invariant-loop-spread
invariant-loop-spread l = record {
  exact : l.total ≡ spread_over l.index.meets (take l.spread-index l.spreads) l.events;
  bound : l.total ≤ l.spread-index * (DURATION + NUMBER);
}
