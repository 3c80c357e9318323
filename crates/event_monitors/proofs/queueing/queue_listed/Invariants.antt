use Rattle.std.proofs.Common.{◌≡◌, Some, true, drop, slice_get}
use Rattle.khe_told.specs.Waits.{WaitOn}
use Rattle.event_monitors.specs.Effects.{HoldOrWait}
use Rattle.event_monitors.proofs.queueing.queue_listed.Given as goal

abbrev pub invariant-loop-place : goal.invariant-loop-place
invariant-loop-place g l =
    record {
      monitors : g.W.Waits.monitors l.waits ≡ g.W.Waits.monitors l.fn.waits;
      unaffected : g.W.Waits.hears ≡ true
          → HoldOrWait (λ k a. (x : g.row.G.Denot) → slice_get l.gauges k ≡ Some x
          → g.G.Gauge.IsUnaffected x l.inst a.monitor l.effect) l.posts l.list (drop l.place-index l.list)
          (g.W.Waits.waits l.waits);
      kept : WaitOn (g.W.Waits.waits l.fn.waits) (g.W.Waits.waits l.waits);
    }
