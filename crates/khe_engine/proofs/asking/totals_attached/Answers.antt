-- The totals are those of the graph while the edit is made.
use Rattle.std.proofs.Common.{◌∙◌, ap, sym}
use Rattle.khe_engine.specs.States.{state_of}
use Rattle.khe_engine.specs.Values.{totals}
use Rattle.khe_engine.proofs.StateLaws.{attaches_groups, edited_groups}
use Rattle.khe_engine.proofs.ValueLaws.{totals_same, values_kept}
use Rattle.monitor_graph.specs.Boards.{Grouping}
use Rattle.khe_engine.proofs.asking.totals_attached.Goals as goal

pub returns-clause-totals : goal.returns-clause-totals
returns-clause-totals c p s h =
    let b = c.args.graph.now in
    let made = c.edit.new.self in
    let e = c.args.edit.now in
    let kept = values_kept p s b made h c.in-Ok.ensures.rest in
    totals_same p s made c.totals-totals.result kept (c.totals-totals.ensures.value p kept.rates)
    ∙ ap (λ (g : Grouping). totals p (record { slots = s; grouping = g })) c.in-Ok.ensures.grouping
    ∙ ap (totals p) (sym (edited_groups (state_of s b) e (attaches_groups e c.requires.ours)))
