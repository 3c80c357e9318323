use Rattle.std.proofs.Common.{◌∙◌, sym}
use Rattle.khe_engine.specs.States.{state_of}
use Rattle.khe_engine.proofs.ValueLaws.{totals_grouped, totals_same}
use Rattle.khe_engine.proofs.asking.totals_grouped.Goals as goal

pub returns-else-attaches-clause-totals : goal.returns-else-attaches-clause-totals
returns-else-attaches-clause-totals c p s h =
    let b = c.args.graph.now in
    totals_same p s b c.totals.result h (c.totals.ensures.value p h.rates)
    ∙ totals_grouped p (state_of s b) c.args.edit.now c.requires.ours (sym c.attaches.ensures ∙ c.if-attaches.false)
