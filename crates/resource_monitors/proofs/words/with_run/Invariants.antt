use Rattle.std.proofs.Common.{ℕ, ◌≡◌, ◌<◌, cond, nat_lt}
use Rattle.khe_base.specs.Bits.{has_bit}
use Rattle.timetables.specs.Counts.{count_at}
use Rattle.resource_monitors.specs.Cells.{in_run}
use Rattle.resource_monitors.specs.Shifts.{after_both}
use Rattle.resource_monitors.proofs.words.with_run.Given as goal

abbrev pub invariant-loop-t : goal.invariant-loop-t
invariant-loop-t l = (i : ℕ) → i < 64 → has_bit l.word i ≡ cond (in_run l.fn.run.start l.t i)
    (nat_lt 0 (after_both l.shifts (count_at l.table l.r.0) i)) (has_bit l.fn.bits i)
