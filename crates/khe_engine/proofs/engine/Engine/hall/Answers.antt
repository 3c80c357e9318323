-- The families are of the instance, and were told of the slots.
use Rattle.std.proofs.Common.{subst, IfOk}
use Rattle.hall_report.specs.Shortages.{AreCompeting}
use Rattle.khe_engine.proofs.engine.Engine.hall.Goals as goal

pub returns : goal.returns
returns g c =
    let i = c.self.inside in
    rw (← c.self.view_is) (subst (λ s. IfOk c.hall.result (AreCompeting i.inst.now s)) c.self.invariant.3
    (c.hall.ensures i.inst.now c.self.invariant.1))
