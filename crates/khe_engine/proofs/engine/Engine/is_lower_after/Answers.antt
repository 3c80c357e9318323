use Rattle.std.proofs.Common.{◌∙◌, ap}
use Rattle.khe_base.specs.Totals.{is_lower}
use Rattle.khe_engine.specs.States.{edited}
use Rattle.khe_engine.specs.Values.{totals}
use Rattle.khe_engine.specs.Worlds.{World}
use Rattle.khe_engine.proofs.engine.Engine.is_lower_after.Goals as goal

pub returns-clause-lower : goal.returns-clause-lower
returns-clause-lower g c = c.is_lower_after.ensures.lower
    ∙ ap (λ (w : World). is_lower (totals w.parts (edited w.state c.args.edit.now)) c.args.lowest) c.self.view_is
