use Rattle.std.proofs.Common.{◌∙◌, sym}
use Rattle.khe_engine.specs.States.{state_of}
use Rattle.khe_engine.proofs.StateLaws.{refusal_groups, refusal_meets}
use Rattle.khe_engine.proofs.asking.totals_of.Goals as goal

pub totals_grouped-requires-clause-accepted : goal.totals_grouped-requires-clause-accepted
totals_grouped-requires-clause-accepted g c =
    sym (refusal_groups c.args.inst.now (state_of c.args.solution.now.slots c.args.listeners.now.graph) c.args.edit.now
    (sym c.is_of_groups.ensures ∙ c.if-is_of_groups.true)) ∙ c.requires.accepted

pub totals_after-requires-clause-accepted : goal.totals_after-requires-clause-accepted
totals_after-requires-clause-accepted g c =
    sym (refusal_meets c.args.inst.now (state_of c.args.solution.now.slots c.args.listeners.now.graph) c.args.edit.now
    (sym c.is_of_groups.ensures ∙ c.if-is_of_groups.false)) ∙ c.requires.accepted
