use Rattle.khe_engine.proofs.engine.Engine.totals_after.Goals as goal

pub returns-clause-totals : goal.returns-clause-totals
returns-clause-totals g c = rw (← c.self.view_is) c.totals_after.ensures.totals
