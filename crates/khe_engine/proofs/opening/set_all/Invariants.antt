-- So many values are set.
use Rattle.std.proofs.Common.{ℕ, ◌≡◌, ◌+◌, ◌<◌, Some, length, slice_get}
use Rattle.khe_instance.specs.declared.points.Monitor.{Monitor}
use Rattle.khe_told.specs.Agreement.{deviation_in}
use Rattle.monitor_graph.specs.Boards.{HaveSameRest, deviations_of}
use Rattle.khe_engine.proofs.opening.set_all.Given as goal

abbrev pub invariant-loop-number : goal.invariant-loop-number
invariant-loop-number g l = record {
  many : length (deviations_of l.graph) ≡ length l.inst.monitors;
  set : (i : ℕ) (m : Monitor) → i < l.number → slice_get l.inst.monitors i ≡ Some m
      → slice_get (deviations_of l.graph) i ≡ Some (deviation_in l.inst (g.F.Family.told l.families) m);
  rest : HaveSameRest l.fn.graph l.graph;
  steps : l.steps ≡ l.fn.steps + l.number;
}
