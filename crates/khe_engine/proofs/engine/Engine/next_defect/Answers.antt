use Rattle.std.proofs.Common.{subst}
use Rattle.monitor_graph.specs.Values.{IsNextDefect}
use Rattle.khe_engine.proofs.ValueLaws.{costs_same}
use Rattle.khe_engine.proofs.engine.Engine.next_defect.Goals as goal

pub returns : goal.returns
returns g c =
    let i = c.self.inside in
    let h = c.self.invariant.4 in
    rw (← c.self.view_is) (subst (λ xs. IsNextDefect xs c.args.from c.next_defect.result)
    (costs_same i.inst.now i.solution.slots i.listeners.graph h) (c.next_defect.ensures i.inst.now h.rates))
