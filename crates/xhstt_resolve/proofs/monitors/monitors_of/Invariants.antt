-- The monitors so far, with those of the constraints that are left, are all.
use Rattle.std.proofs.Common.{◌≡◌, ◌++◌, drop}
use Rattle.std.specs.List.{enumerate_from, flat_map}
use Rattle.xhstt_resolve.specs.Points.{monitors_at, monitors_of}
use Rattle.xhstt_resolve.proofs.monitors.monitors_of.Given as goal

abbrev pub invariant-loop-number : goal.invariant-loop-number
invariant-loop-number l =
    l.monitors ++ flat_map (monitors_at l.lookup.instance.now)
    (enumerate_from l.number (drop l.number l.lookup.instance.now.constraints)) ≡ monitors_of l.lookup.instance.now
