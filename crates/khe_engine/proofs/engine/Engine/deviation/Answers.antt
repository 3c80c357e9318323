use Rattle.std.proofs.Common.{arith, ap, length}
use Rattle.monitor_graph.proofs.ValueLaws.{as_many}
use Rattle.khe_engine.specs.Worlds.{World}
use Rattle.khe_engine.proofs.ValueLaws.{value_is}
use Rattle.khe_engine.proofs.engine.Engine.deviation.Goals as goal

pub deviation-requires : goal.deviation-requires
deviation-requires g c =
    let many = as_many c.self.inside.listeners.graph c.self.inside.inst.now c.self.invariant.4.rates in
    let d = ap (λ (w : World). length w.parts.monitors) c.self.view_is in
    let e = c.requires in
    omega (arith, many, d, e)

pub returns : goal.returns
returns g c =
    let i = c.self.inside in
    let d = ap (λ (w : World). length w.parts.monitors) c.self.view_is in
    let e = c.requires in
    rw (← c.self.view_is) (value_is i.inst.now i.solution.slots i.listeners.graph c.args.monitor.0 c.deviation.result
    c.self.invariant.4 (omega (arith, d, e)) c.deviation.ensures)
