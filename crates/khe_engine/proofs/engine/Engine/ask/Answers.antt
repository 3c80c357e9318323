use Rattle.std.proofs.Common.{◌≡◌, subst}
use Rattle.std.specs.Prelude.{IfOk}
use Rattle.khe_base.specs.declared.sums.Totals.{Totals}
use Rattle.khe_engine.specs.States.{edited}
use Rattle.khe_engine.specs.Values.{totals}
use Rattle.khe_engine.specs.Worlds.{World}
use Rattle.khe_engine.proofs.engine.Engine.ask.Goals as goal

pub returns-clause-totals : goal.returns-clause-totals
returns-clause-totals g c =
    subst (λ (w : World). IfOk c.ask.result (λ (t : Totals). t ≡ totals w.parts (edited w.state c.args.edit.now)))
    c.self.view_is c.ask.ensures.totals
