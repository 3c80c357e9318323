-- The lines so far and those of the demands that are left are those of all demands.
use Rattle.std.proofs.Common.{◌≡◌, ◌++◌, drop}
use Rattle.std.specs.List.{flat_map}
use Rattle.khe_io.specs.Amid.{IsAmid}
use Rattle.evaluation_report.specs.Demands.{demand_line}
use Rattle.script_run.proofs.questions.push_demands.Given as goal

abbrev pub invariant-loop-demand : goal.invariant-loop-demand
invariant-loop-demand g l =
    record {
      amid : IsAmid (g.G.Onward.taken l.fn.onward) (g.G.Onward.taken l.onward) l.text (flat_map demand_line (drop l.demand-index l.demands)) (l.fn.text ++ flat_map demand_line l.demands);
      faultless : g.G.Onward.faults l.onward ≡ g.G.Onward.faults l.fn.onward;
    }
