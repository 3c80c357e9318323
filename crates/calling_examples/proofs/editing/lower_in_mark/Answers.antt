-- The totals that were compared are those of the states before and after the edit.
use Rattle.std.proofs.Common.{◌≡◌, ◌∙◌, sym, ap, ap₂}
use Rattle.khe_base.specs.Totals.{is_lower}
use Rattle.khe_engine.specs.Values.{totals}
use Rattle.calling_examples.proofs.editing.lower_in_mark.Goals as goal

pub returns-then-is_lower-clause-lower : goal.returns-then-is_lower-clause-lower
returns-then-is_lower-clause-lower g c = λ kept.
    let after = c.totals.ensures ∙ ap (λ p. totals p c.edit.new.self.state) c.edit.ensures.parts in
    sym (ap₂ is_lower after c.totals-before.ensures) ∙ sym c.is_lower.ensures ∙ c.if-is_lower.true
