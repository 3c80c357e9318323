use Rattle.ejection_repair.proofs.AskLaws as asks
use Rattle.ejection_repair.proofs.asks.only_dearer.Goals as goal

pub returns-clause-only : goal.returns-clause-only
returns-clause-only g c = let w = c.args.engine.now in asks.dearer_at w.parts w.state w.marked _ c.only_dearer.ensures

pub returns-clause-known : goal.returns-clause-known
returns-clause-known g c =
    let w = c.args.engine.now in asks.dearer_known w.parts w.state w.marked _
    (asks.dearer_at w.parts w.state w.marked _ c.only_dearer.ensures)
