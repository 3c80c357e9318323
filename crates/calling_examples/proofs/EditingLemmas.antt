-- An edit that is kept where it lowers the totals never raises them.
use Rattle.std.proofs.Common.{◌≡◌, ◌∙◌, Bool, true, false, refl, ap, arith}
use Rattle.std.proofs.lemmas.Bool.Decides.{nat_tests}
use Rattle.khe_base.specs.Totals.{is_lower}
use Rattle.khe_base.specs.declared.sums.Totals.{Totals}
use Rattle.khe_engine.specs.States.{State}
use Rattle.khe_engine.specs.Values.{totals}
use Rattle.khe_instance.specs.declared.parts.Parts.{Parts}

not_itself : (a : Totals) → is_lower a a ≡ false
not_itself a = grind (arith, nat_tests)

not_back : (a b : Totals) → is_lower a b ≡ true → is_lower b a ≡ false
not_back a b low = grind (arith, nat_tests)

pub no_dearer : (p : Parts) (s u : State) (t : Totals) (lowers : Bool) → t ≡ totals p u
    → (lowers ≡ true → is_lower (totals p u) (totals p s) ≡ true) → (lowers ≡ false → u ≡ s)
    → is_lower (totals p s) t ≡ false
no_dearer p s u t true is low same =
    ap (λ x. is_lower (totals p s) x) is ∙ not_back (totals p u) (totals p s) (low refl)
no_dearer p s u t false is low same =
    ap (λ x. is_lower (totals p s) x) (is ∙ ap (λ v. totals p v) (same refl)) ∙ not_itself (totals p s)
