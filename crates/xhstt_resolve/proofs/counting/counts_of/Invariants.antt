-- The counts so far, with those of the constraints that are left, are the whole.
use Rattle.std.proofs.Common.{◌≡◌, ◌+◌, ◌*◌, ◌≤◌, ◌^◌, drop, length}
use Rattle.std.specs.List.{enumerate_from, flat_map, sum_by}
use Rattle.xhstt_resolve.specs.Limits.{watches_of, watch_count}
use Rattle.xhstt_resolve.specs.Points.{monitors_at, monitors_of}
use Rattle.xhstt_resolve.proofs.counting.counts_of.Given as goal

abbrev pub invariant-loop-constraint : goal.invariant-loop-constraint
invariant-loop-constraint l = record {
  monitors : l.counts.monitors + length (flat_map (monitors_at l.lookup.instance.now)
      (enumerate_from l.constraint-index (drop l.constraint-index l.lookup.instance.now.constraints)))
      ≡ length (monitors_of l.lookup.instance.now);
  watches : l.counts.watches + sum_by (watches_of l.lookup.instance.now)
      (drop l.constraint-index l.lookup.instance.now.constraints) ≡ watch_count l.lookup.instance.now;
  few : l.counts.monitors ≤ l.constraint-index * 2 ^ 64;
  small : l.counts.watches ≤ l.constraint-index * 2 ^ 112;
}
