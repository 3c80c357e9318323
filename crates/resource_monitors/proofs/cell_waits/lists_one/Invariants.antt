use Rattle.std.proofs.Common.{◌≡◌, ◌-◌}
use Rattle.std.specs.List.{range_with_len, list_any}
use Rattle.resource_monitors.specs.Cells.{lists, lists_any}
use Rattle.resource_monitors.proofs.cell_waits.lists_one.Given as goal

abbrev pub invariant-loop-t : goal.invariant-loop-t
invariant-loop-t l = list_any (λ t. lists l.inst l.monitor t) (range_with_len l.t (l.end - l.t))
    ≡ lists_any l.inst l.start l.end l.monitor
