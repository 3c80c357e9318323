use Rattle.std.proofs.Common.{◌∙◌, ap}
use Rattle.monitor_graph.specs.declared.graph.Graph.{Graph}
use Rattle.khe_engine.specs.States.{state_of}
use Rattle.khe_engine.specs.Values.{totals}
use Rattle.khe_engine.proofs.trials.totals_turned.Goals as goal

pub returns-clause-totals : goal.returns-clause-totals
returns-clause-totals g c =
    let p = c.args.inst.now in
    let s = g.F.Family.told c.turn_by.new.listeners.families in
    c.measured-totals.ensures.totals
    ∙ ap (λ (b : Graph). totals p (state_of s b)) c.turn_by.ensures.graph
    ∙ ap (totals p) c.turn_by.ensures.state
