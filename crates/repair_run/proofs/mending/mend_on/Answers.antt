-- The totals are those of the state that the repair leaves.
use Rattle.std.proofs.Common.{◌∙◌, ap}
use Rattle.khe_engine.specs.States.{State}
use Rattle.khe_engine.specs.Values.{totals}
use Rattle.khe_instance.specs.declared.parts.Parts.{Parts}
use Rattle.repair_run.proofs.mending.mend_on.Goals as goal

pub returns-clause-totals : goal.returns-clause-totals
returns-clause-totals g c =
    c.totals.ensures
    ∙ ap (λ (p : Parts). totals p c.repair.new.engine.state) c.in_ok-outcome.ensures.parts
    ∙ ap (λ (s : State). totals c.args.engine.now.parts s) c.in_ok-outcome.ensures.state
