use Rattle.std.proofs.Common.{◌≡◌, true, drop}
use Rattle.event_monitors.specs.Turns.{AreListedSince}
use Rattle.khe_told.specs.Waits.{WaitOn}
use Rattle.set_monitors.specs.OrderWaits.{NamedWait}
use Rattle.set_monitors.proofs.order_waits.add_all.Given as goal

abbrev pub invariant-loop-place : goal.invariant-loop-place
invariant-loop-place g l =
    record {
      monitors : g.W.Waits.monitors l.waits ≡ g.W.Waits.monitors l.fn.waits;
      named : g.W.Waits.hears ≡ true
          → NamedWait l.inst l.posts l.fn.event.0 (g.W.Waits.waits l.waits) (drop l.place-index l.list);
      kept : WaitOn (g.W.Waits.waits l.fn.waits) (g.W.Waits.waits l.waits);
      listed : AreListedSince l.posts l.list (g.W.Waits.waits l.fn.waits) (g.W.Waits.waits l.waits);
    }
