use Rattle.std.proofs.Common.{◌∙◌}
use Rattle.khe_engine.proofs.CostLaws.{dearer_same}
use Rattle.khe_engine.proofs.engine.Engine.only_dearer.Goals as goal

pub returns : goal.returns
returns g c =
    let i = c.self.inside in
    let h = c.self.invariant.4 in
    rw (← c.self.view_is) (c.only_dearer.ensures i.inst.now h.rates
    ∙ dearer_same i.inst.now i.solution.slots i.listeners.graph h)
