use Rattle.std.proofs.Common.{◌∙◌, ap}
use Rattle.khe_engine.specs.Values.{totals}
use Rattle.khe_engine.proofs.StateLaws.{foreseen_state}
use Rattle.khe_engine.proofs.trials.totals_after.Goals as goal

pub returns-in-Some-clause-totals : goal.returns-in-Some-clause-totals
returns-in-Some-clause-totals g c =
    c.totals_foreseen.ensures.totals
    ∙ ap (totals c.args.inst.now)
    (foreseen_state c.args.solution.now.slots (g.F.Family.told c.args.listeners.now.families) c.args.listeners.now.graph
    c.args.edit.now c.in-Some.effects c.requires.ours c.requires.told c.in-Some.ensures.leads)
