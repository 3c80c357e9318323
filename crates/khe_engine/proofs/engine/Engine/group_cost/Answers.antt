use Rattle.std.proofs.Common.{ap, map, ◌∙◌}
use Rattle.khe_base.specs.declared.numbers.MonitorId.{MonitorId}
use Rattle.khe_instance.specs.Costs.{totals_among}
use Rattle.monitor_graph.specs.Groups.{children_at}
use Rattle.khe_engine.proofs.ValueLaws.{costs_same}
use Rattle.khe_engine.proofs.engine.Engine.group_cost.Goals as goal

pub returns : goal.returns
returns g c =
    let i = c.self.inside in
    let h = c.self.invariant.4 in
    rw (← c.self.view_is) (c.group_cost.ensures i.inst.now h.rates
    ∙ ap (λ xs. totals_among i.inst.now xs (map (λ (m : MonitorId). m.0)
    (children_at i.listeners.graph.groups c.args.group.0)))
    (costs_same i.inst.now i.solution.slots i.listeners.graph h))
