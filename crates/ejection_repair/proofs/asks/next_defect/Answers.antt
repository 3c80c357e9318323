use Rattle.ejection_repair.proofs.AskLaws as asks
use Rattle.ejection_repair.proofs.asks.next_defect.Goals as goal

pub returns-clause-next : goal.returns-clause-next
returns-clause-next g c =
    let w = c.args.engine.now in asks.next_defect_at w.parts w.state _ c.args.from _ (asks.costs_are w.parts w.state)
    c.next_defect.ensures

pub returns-clause-known : goal.returns-clause-known
returns-clause-known g c =
    let w = c.args.engine.now in asks.next_defect_known w.parts w.state _ c.args.from _ (asks.costs_are w.parts w.state)
    c.next_defect.ensures

pub returns-clause-small : goal.returns-clause-small
returns-clause-small g c =
    let w = c.args.engine.now in
    asks.small_number w.parts _ (asks.few_monitors c.instance.result.now w.parts c.instance.ensures
    c.facts.ensures.limits.monitors)
    (asks.next_defect_known w.parts w.state _ c.args.from _ (asks.costs_are w.parts w.state) c.next_defect.ensures)
