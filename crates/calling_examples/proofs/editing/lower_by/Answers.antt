-- Opening a mark and closing it leave the state and the parts as they are.
use Rattle.std.proofs.Common.{◌≡◌, true, IfOk, sym, subst}
use Rattle.khe_base.specs.Totals.{is_lower}
use Rattle.khe_engine.specs.States.{State}
use Rattle.khe_engine.specs.Values.{totals}
use Rattle.khe_instance.specs.declared.parts.Parts.{Parts}
use Rattle.calling_examples.proofs.editing.lower_by.Goals as goal

pub returns-clause-lower : goal.returns-clause-lower
returns-clause-lower g c =
    let r = c.lower_in_mark-lowers.result in
    let p = c.args.engine.now.parts in
    let s = c.args.engine.now.state in
    let after = c.lower_in_mark-lowers.new.engine.state in
    let begun = c.begin.new.self.state in
    subst (λ (x : State). IfOk r (λ lowers. lowers ≡ true → is_lower (totals p x) (totals p s) ≡ true))
    (sym c.end-closed.ensures.state)
    (subst (λ (x : State). IfOk r (λ lowers. lowers ≡ true → is_lower (totals p after) (totals p x) ≡ true))
    c.begin.ensures.state
    (subst (λ (q : Parts). IfOk r (λ lowers. lowers ≡ true → is_lower (totals q after) (totals q begun) ≡ true))
    c.begin.ensures.parts c.lower_in_mark-lowers.ensures.lower))
