use Rattle.std.proofs.Common.{◌≡◌, ◌≤◌, ◌+◌, length}
use Rattle.khe_told.specs.Waits.{waits_in}
use Rattle.monitor_graph.specs.Boards.{HaveSameRest, deviations_of}
use Rattle.khe_engine.specs.Settled.{AreMeasured}
use Rattle.khe_engine.proofs.settling.settle.Given as goal

abbrev pub invariant-loop-monitor : goal.invariant-loop-monitor
invariant-loop-monitor g l = record {
  monitors : length l.waiting.flags ≡ length l.inst.monitors;
  many : length (deviations_of l.graph) ≡ length l.inst.monitors;
  others : AreMeasured l.inst (waits_in l.waiting) (g.F.Family.told l.families) (deviations_of l.graph);
  rest : HaveSameRest l.fn.graph l.graph;
  steps : l.steps + l.waiting.amount ≤ l.fn.steps + l.fn.waiting.amount;
}

abbrev pub decreases-loop-monitor : goal.decreases-loop-monitor
decreases-loop-monitor g l = l.waiting.amount
