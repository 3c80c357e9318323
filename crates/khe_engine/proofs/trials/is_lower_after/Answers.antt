use Rattle.std.proofs.Common.{◌∙◌, ap}
use Rattle.khe_base.specs.Totals.{is_lower}
use Rattle.khe_engine.specs.States.{State}
use Rattle.khe_engine.specs.Values.{totals}
use Rattle.khe_engine.proofs.StateLaws.{foreseen_state}
use Rattle.khe_engine.proofs.trials.is_lower_after.Goals as goal

pub returns-in-Some-clause-lower : goal.returns-in-Some-clause-lower
returns-in-Some-clause-lower g c =
    c.is_lower_foreseen.ensures.lower
    ∙ ap (λ (x : State). is_lower (totals c.args.inst.now x) c.args.lowest)
    (foreseen_state c.args.solution.now.slots (g.F.Family.told c.args.listeners.now.families) c.args.listeners.now.graph
    c.args.edit.now c.in-Some.effects c.requires.ours c.requires.told c.in-Some.ensures.leads)
