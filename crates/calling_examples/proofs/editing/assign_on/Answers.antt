-- The totals are those of the state that is left, which the edit lowered or left as it was.
use Rattle.std.proofs.Common.{◌∙◌, ap}
use Rattle.calling_examples.proofs.EditingLemmas.{no_dearer}
use Rattle.khe_engine.specs.Values.{totals}
use Rattle.khe_instance.specs.declared.parts.Parts.{Parts}
use Rattle.calling_examples.proofs.editing.assign_on.Goals as goal

pub returns : goal.returns
returns g c =
    let left = c.lower_by.new.engine.state in
    no_dearer c.args.engine.now.parts c.args.engine.now.state left c.totals.result c.in_ok-lower_by.field-0
    (c.totals.ensures ∙ ap (λ (p : Parts). totals p left) c.lower_by.ensures.parts) c.in_ok-lower_by.ensures.lower
    c.in_ok-lower_by.ensures.left
