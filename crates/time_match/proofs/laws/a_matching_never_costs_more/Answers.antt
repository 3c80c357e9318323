use Rattle.std.proofs.Common.{◌≡◌, ◌⊎◌, inl, inr, Bool, true, false, cond, refl, sym, ap, ◌∙◌}
use Rattle.khe_base.specs.Totals.{is_lower}
use Rattle.khe_engine.specs.States.{State}
use Rattle.khe_engine.specs.Values.{totals}
use Rattle.khe_instance.specs.declared.parts.Parts.{Parts}
use Rattle.time_match.specs.Matching.{whole}
use Rattle.time_match.proofs.laws.a_matching_never_costs_more.Goals as goal

by_taken : (p : Parts) (s u : State) (taken b : Bool) → taken ≡ is_lower (totals p u) (totals p s) → taken ≡ b
    → ((taken ≡ true) × (is_lower (totals p (cond taken u s)) (totals p s) ≡ true))
    ⊎ ((taken ≡ false) × (cond taken u s ≡ s))
by_taken p s u taken true e h =
    inl (h, ap (λ t. is_lower (totals p (cond t u s)) (totals p s)) h ∙ sym e ∙ h)
by_taken p s u taken false e h = inr (h, ap (λ t. cond t u s) h)

pub returns : goal.returns
returns c = λ p s time rtype m is. by_taken p s (whole p s time rtype m.cheapest.chosen) m.taken m.taken is.taken refl
