use Rattle.std.proofs.Common.{ℕ, ◌≡◌, false, cond, length, take}
use Rattle.std.specs.Prelude.{◌==◌}
use Rattle.std.specs.List.{list_any}
use Rattle.khe_base.specs.declared.numbers.MonitorId.{MonitorId}
use Rattle.monitor_graph.specs.Boards.{KeepsValues, grouping_of}
use Rattle.monitor_graph.specs.Edits.{is_attached}
use Rattle.monitor_graph.proofs.graph.Graph.detach_all.Given as goal

abbrev pub invariant-loop-monitor : goal.invariant-loop-monitor
invariant-loop-monitor l = record {
  long : length l.self.lines ≡ length l.fn.self.lines;
  attached : (n : ℕ) → is_attached (grouping_of l.self) n
      ≡ cond (list_any (λ (m : MonitorId). m.0 == n) (take l.monitor-index l.detached)) false
      (is_attached (grouping_of l.fn.self) n);
  groups : l.self.groups ≡ l.fn.self.groups;
  rest : KeepsValues l.fn.self l.self;
}
