use Rattle.std.proofs.Common.{◌<◌}
use Rattle.ejection_repair.proofs.spans.Spans.keep.Given as goal

abbrev pub invariant-loop-other : goal.invariant-loop-other
invariant-loop-other l = l.place < 64
