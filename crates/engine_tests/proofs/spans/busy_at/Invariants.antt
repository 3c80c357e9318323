use Rattle.engine_tests.specs.Spans.{IsOneRow}
use Rattle.engine_tests.proofs.spans.busy_at.Given as goal

abbrev pub invariant-loop-time : goal.invariant-loop-time
invariant-loop-time l = IsOneRow l.timetable 130
