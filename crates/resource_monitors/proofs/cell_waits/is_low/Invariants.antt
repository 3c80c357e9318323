use Rattle.std.proofs.Common.{◌≡◌, ◌-◌, nat_le}
use Rattle.std.specs.List.{range_with_len, list_any}
use Rattle.timetables.specs.Counts.{count_at}
use Rattle.resource_monitors.specs.Cells.{is_low}
use Rattle.resource_monitors.proofs.cell_waits.is_low.Given as goal

abbrev pub invariant-loop-t : goal.invariant-loop-t
invariant-loop-t l = list_any (λ t. nat_le (count_at l.table l.r.0 t) l.limit) (range_with_len l.t (l.end - l.t))
    ≡ is_low l.table l.start l.end l.limit l.r.0
