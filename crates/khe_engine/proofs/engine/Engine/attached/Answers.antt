use Rattle.std.proofs.Common.{arith, ap, length}
use Rattle.monitor_graph.proofs.ValueLaws.{as_many}
use Rattle.khe_engine.specs.Worlds.{World}
use Rattle.khe_engine.proofs.engine.Engine.attached.Goals as goal

pub attached-requires : goal.attached-requires
attached-requires g c =
    let many = as_many c.self.inside.listeners.graph c.self.inside.inst.now c.self.invariant.4.rates in
    let d = ap (λ (w : World). length w.parts.monitors) c.self.view_is in
    let e = c.requires in
    omega (arith, many, d, e)
