use Rattle.std.proofs.Common.{take}
use Rattle.khe_engine.specs.Lower.{AreBegun}
use Rattle.khe_engine.proofs.measuring.measure_defects.Given as goal

abbrev pub invariant-loop-monitor : goal.invariant-loop-monitor
invariant-loop-monitor g l = record {
  begun : AreBegun l.inst (g.D.Deviations.slots l.deviations) l.graph (take l.monitor-index l.monitor-items) l.totals;
}
