use Rattle.std.proofs.Common.{◌<◌, ◌-◌, length}
use Rattle.ejection_repair.specs.Stuck.{AreStuckFrom}
use Rattle.ejection_repair.proofs.spans.Spans.end_from.Given as goal

abbrev pub invariant-loop-end : goal.invariant-loop-end
invariant-loop-end l =
    record {
      onward : l.monitor.0 < l.end;
      stuck : AreStuckFrom l.inst l.monitor.0 l.end;
    }

abbrev pub decreases-loop-end : goal.decreases-loop-end
decreases-loop-end l = length l.inst.monitors - l.end
