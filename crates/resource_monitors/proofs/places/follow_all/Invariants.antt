use Rattle.std.proofs.Common.{◌≡◌, ◌-◌, length, take, true}
use Rattle.khe_told.specs.Waits.{WaitOn}
use Rattle.timetables.specs.Counts.{count_at}
use Rattle.resource_monitors.specs.Cells.{AreMeasuredSame, HasRows}
use Rattle.resource_monitors.specs.Runs.{AreAtMoved, AreExchanged}
use Rattle.resource_monitors.proofs.places.follow_all.Given as goal

abbrev pub invariant-loop-place : goal.invariant-loop-place
invariant-loop-place g l =
    record {
      rows : HasRows l.audience.inst.now l.table;
      counts : AreExchanged l.emptied l.filled (take l.place l.regiven.before.now) (take l.place l.regiven.later.now)
          (count_at l.fn.table)
          (count_at l.table);
      same : g.W.Waits.monitors l.waits ≡ g.W.Waits.monitors l.fn.waits;
      unmoved : g.W.Waits.hears ≡ true → AreMeasuredSame l.audience.inst.now g.K.CellKinds.serves_kind
          (g.W.Waits.waits l.waits)
          l.fn.table l.table;
      kept : WaitOn (g.W.Waits.waits l.fn.waits) (g.W.Waits.waits l.waits);
      listed : AreAtMoved l.audience.inst.now l.emptied l.filled l.regiven.before.now l.regiven.later.now
          (g.W.Waits.waits l.fn.waits)
          (g.W.Waits.waits l.waits);
    }

abbrev pub decreases-loop-place : goal.decreases-loop-place
decreases-loop-place g l = length l.regiven.before.now - l.place
