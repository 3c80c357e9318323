use Rattle.std.proofs.Common.{◌∙◌}
use Rattle.khe_base.specs.Totals.{is_lower}
use Rattle.khe_told.specs.Effects.{turned_all}
use Rattle.khe_engine.specs.States.{state_of}
use Rattle.khe_engine.specs.Values.{totals}
use Rattle.khe_engine.proofs.trials.is_lower_foreseen.Goals as goal

pub returns-clause-lower : goal.returns-clause-lower
returns-clause-lower g c =
    c.is_lower_measured.ensures.lower
    ∙ (λ i. is_lower (totals c.args.inst.now (state_of (turned_all (g.F.Family.told (c.queue_by.ensures.families i))
    c.args.effects.now) (c.queue_by.ensures.graph i))) c.args.lowest)
