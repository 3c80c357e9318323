use Rattle.std.proofs.Common.{◌≡◌, true, drop}
use Rattle.khe_told.specs.Turns.{turned}
use Rattle.khe_told.specs.Waits.{WaitOn}
use Rattle.event_monitors.specs.Turns.{AreListedSince, AreSameOrWait, AreTurned}
use Rattle.event_monitors.proofs.turns.turn_all.Given as goal

abbrev pub invariant-loop-place : goal.invariant-loop-place
invariant-loop-place g l =
    record {
      turned : AreTurned g.G.Gauge.Keeps l.inst l.posts (turned l.told l.turn) l.fn.gauges.items l.gauges.items
          (drop l.place-index l.list);
      monitors : g.W.Waits.monitors l.waits ≡ g.W.Waits.monitors l.fn.waits;
      unmoved : g.W.Waits.hears ≡ true
          → AreSameOrWait g.G.Gauge.value l.inst l.posts l.fn.gauges.items l.gauges.items (g.W.Waits.waits l.waits);
      kept : WaitOn (g.W.Waits.waits l.fn.waits) (g.W.Waits.waits l.waits);
      listed : AreListedSince l.posts l.list (g.W.Waits.waits l.fn.waits) (g.W.Waits.waits l.waits);
    }
