use Rattle.std.proofs.Common.{arith, ap, length, get_or, ◌∙◌}
use Rattle.monitor_graph.proofs.ValueLaws.{as_many}
use Rattle.khe_engine.specs.Worlds.{World}
use Rattle.khe_engine.proofs.ValueLaws.{costs_same}
use Rattle.khe_engine.proofs.engine.Engine.cost.Goals as goal

pub cost-requires : goal.cost-requires
cost-requires g c =
    let many = as_many c.self.inside.listeners.graph c.self.inside.inst.now c.self.invariant.4.rates in
    let d = ap (λ (w : World). length w.parts.monitors) c.self.view_is in
    let e = c.requires in
    omega (arith, many, d, e)

pub returns : goal.returns
returns g c =
    let i = c.self.inside in
    let h = c.self.invariant.4 in
    rw (← c.self.view_is) (c.cost.ensures i.inst.now h.rates
    ∙ ap (λ xs. get_or xs c.args.monitor.0 0) (costs_same i.inst.now i.solution.slots i.listeners.graph h))
