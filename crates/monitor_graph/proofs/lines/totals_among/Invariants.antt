use Rattle.std.proofs.Common.{◌≡◌, ◌≤◌, ◌*◌, slice_get, take}
use Rattle.std.specs.List.{sum_by}
use Rattle.std.specs.Option.{option_map_or}
use Rattle.khe_base.specs.declared.limits.TheConstants.{GREATEST_COST}
use Rattle.khe_base.specs.declared.numbers.MonitorId.{MonitorId}
use Rattle.monitor_graph.specs.Lines.{hard_cost, soft_cost}
use Rattle.monitor_graph.proofs.lines.totals_among.Given as goal

abbrev pub invariant-loop-place : goal.invariant-loop-place
invariant-loop-place l = record {
  hard : l.hard ≡ sum_by (λ (c : MonitorId). option_map_or hard_cost (slice_get l.lines c.0) 0)
      (take l.place l.children);
  soft : l.soft ≡ sum_by (λ (c : MonitorId). option_map_or soft_cost (slice_get l.lines c.0) 0)
      (take l.place l.children);
  hard_small : l.hard ≤ l.place * GREATEST_COST;
  soft_small : l.soft ≤ l.place * GREATEST_COST;
}
