use Rattle.std.proofs.Common.{◌≡◌, ◌-◌, length, take, true}
use Rattle.khe_told.specs.Waits.{WaitOn}
use Rattle.resource_monitors.specs.Loads.{AreAllExchanged, AreMeasuredSame, AreOnMoved}
use Rattle.resource_monitors.proofs.load_turns.follow_all.Given as goal

abbrev pub invariant-loop-number : goal.invariant-loop-number
invariant-loop-number g l =
    record {
      resources : length l.loads.items ≡ length l.fn.loads.items;
      exchanged : AreAllExchanged l.inst l.resized.event l.resized.less l.resized.more
          (take l.number l.regiven.before.now) (take l.number l.regiven.later.now)
          l.fn.loads.items l.loads.items;
      same : g.W.Waits.monitors l.waits ≡ g.W.Waits.monitors l.fn.waits;
      unmoved : g.W.Waits.hears ≡ true → AreMeasuredSame l.inst (g.W.Waits.waits l.waits) l.fn.loads.items
          l.loads.items;
      kept : WaitOn (g.W.Waits.waits l.fn.waits) (g.W.Waits.waits l.waits);
      listed : AreOnMoved l.inst l.resized.less l.resized.more l.regiven.before.now l.regiven.later.now
          (g.W.Waits.waits l.fn.waits) (g.W.Waits.waits l.waits);
    }

abbrev pub decreases-loop-number : goal.decreases-loop-number
decreases-loop-number g l = length l.regiven.before.now - l.number
