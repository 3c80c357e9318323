use Rattle.std.proofs.Common.{ap, ◌∙◌}
use Rattle.khe_instance.specs.Costs.{totals_of}
use Rattle.khe_engine.proofs.ValueLaws.{costs_same}
use Rattle.khe_engine.proofs.engine.Engine.totals.Goals as goal

pub returns : goal.returns
returns g c =
    let i = c.self.inside in
    let h = c.self.invariant.4 in
    rw (← c.self.view_is) (c.totals.ensures.value i.inst.now h.rates
    ∙ ap (totals_of i.inst.now) (costs_same i.inst.now i.solution.slots i.listeners.graph h))
