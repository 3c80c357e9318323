use Rattle.std.proofs.Common.{◌∙◌}
use Rattle.khe_told.specs.Effects.{turned_all}
use Rattle.khe_engine.specs.States.{state_of}
use Rattle.khe_engine.specs.Values.{totals}
use Rattle.khe_engine.proofs.trials.totals_foreseen.Goals as goal

pub returns-clause-totals : goal.returns-clause-totals
returns-clause-totals g c =
    c.measured.ensures.totals
    ∙ (λ i. totals c.args.inst.now (state_of (turned_all (g.F.Family.told (c.queue_by.ensures.families i))
    c.args.effects.now) (c.queue_by.ensures.graph i)))
