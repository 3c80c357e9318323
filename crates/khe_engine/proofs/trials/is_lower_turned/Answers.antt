use Rattle.std.proofs.Common.{◌∙◌, ap}
use Rattle.khe_base.specs.Totals.{is_lower}
use Rattle.monitor_graph.specs.declared.graph.Graph.{Graph}
use Rattle.khe_engine.specs.States.{State, state_of}
use Rattle.khe_engine.specs.Values.{totals}
use Rattle.khe_engine.proofs.trials.is_lower_turned.Goals as goal

pub returns-clause-lower : goal.returns-clause-lower
returns-clause-lower g c =
    let p = c.args.inst.now in
    let s = g.F.Family.told c.turn_by.new.listeners.families in
    c.is_lower_measured-lower.ensures.lower
    ∙ ap (λ (b : Graph). is_lower (totals p (state_of s b)) c.args.lowest) c.turn_by.ensures.graph
    ∙ ap (λ (x : State). is_lower (totals p x) c.args.lowest) c.turn_by.ensures.state
