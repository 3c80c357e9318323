-- The totals are those of the state that the matching leaves.
use Rattle.std.proofs.Common.{◌∙◌, ap}
use Rattle.khe_engine.specs.States.{State}
use Rattle.khe_engine.specs.Values.{totals}
use Rattle.khe_instance.specs.declared.parts.Parts.{Parts}
use Rattle.match_run.proofs.finding.find_on.Goals as goal

pub returns-clause-totals : goal.returns-clause-totals
returns-clause-totals g c =
    c.totals.ensures
    ∙ ap (λ (p : Parts). totals p c.match_at.new.engine.state) c.in_ok-matched.ensures.parts
    ∙ ap (λ (s : State). totals c.args.engine.now.parts s) c.in_ok-matched.ensures.state
