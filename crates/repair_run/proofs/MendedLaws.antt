-- What is true of a repaired timetable.
use Rattle.std.proofs.Common.{ℕ, ◌≡◌, ◌<◌, ◌⊎◌, inl, inr, true, sym, ap, subst, ◌∙◌, refl, Result, Ok, Err}
use Rattle.std.specs.Prelude.{IfOk}
use Rattle.ejection_repair.specs.Repaired.{repaired}
use Rattle.ejection_repair.specs.Settled.{IsNoWorse, IsSettled, accepted_of, settled_to}
use Rattle.ejection_repair.specs.Values.{are_lower, totals_at}
use Rattle.ejection_repair.proofs.SettledLaws.{no_worse_by, true_by}
use Rattle.khe_base.specs.Totals.{is_lower}
use Rattle.khe_base.specs.declared.sums.Totals.{Totals}
use Rattle.khe_engine.specs.Openings.{IsStateOf}
use Rattle.khe_engine.specs.States.{State}
use Rattle.khe_engine.specs.Values.{totals}
use Rattle.khe_instance.specs.declared.parts.Parts.{Parts}
use Rattle.khe_instance.specs.declared.states.Plain.{Plain}
use Rattle.repair_run.specs.Laws.{IsNoDearer, IsSettledTo}
use Rattle.repair_run.specs.Repairs.{IsMended}
use Rattle.repair_run.specs.declared.mending.Mended.{Mended}

pub lower : (p : Parts) (u s : State) → are_lower (totals_at p u) (totals_at p s) ≡ true
    → is_lower (totals p u) (totals p s) ≡ true
unfolding are_lower totals_at
lower p u s h = h

pub no_dearer : (p : Parts) (plain : Plain) (depth budget : ℕ) (m : Mended) → IsMended p plain depth budget m
    → IsNoDearer p plain m
no_dearer p plain depth budget m is = record {
  before = is.state;
  begins = is.begins;
  cost = by (no_worse_by p is.state u depth budget 0 m.outcome is.outcome refl);
}
  where
    u : State
    u = (repaired p is.state depth budget 0).state

    by : IsNoWorse p is.state u (accepted_of m.outcome)
        → ((accepted_of m.outcome ≡ 0) × (m.totals ≡ totals p is.state))
        ⊎ ((0 < accepted_of m.outcome) × (is_lower m.totals (totals p is.state) ≡ true))
    by (inl (none, same)) = inl (none, is.totals ∙ ap (totals p) same)
    by (inr (some, h)) = inr (
      some,
      subst (λ (t : Totals). is_lower t (totals p is.state) ≡ true) (sym is.totals) (lower p u is.state h),
    )

pub settled : (p : Parts) (plain : Plain) (depth budget : ℕ) (m : Mended) → IsMended p plain depth budget m
    → IsSettledTo p depth m
settled p plain depth budget m is =
    let u = (repaired p is.state depth budget 0).state in
    record {
      after = u;
      listed = is.listed;
      costs = is.totals;
      settled = (true_by p is.state u depth budget 0 m.outcome is.outcome refl).0;
    }

-- what is left by a repair on an engine that was opened on the timetable
pub mended_by : {E : Type 0} (p q : Parts) (plain : Plain) (s : State) (depth budget : ℕ) (r : Result Mended E)
    → q ≡ p → IsStateOf p plain s
    → IfOk r (λ m. m.outcome ≡ (repaired q s depth budget 0).outcome)
    → IfOk r (λ m. IsStateOf q m.plain (repaired q s depth budget 0).state)
    → IfOk r (λ m. m.totals ≡ totals q (repaired q s depth budget 0).state)
    → IfOk r (IsMended p plain depth budget)
mended_by p q plain s depth budget (Ok m) e is outcome listed costs = record {
  state = s;
  begins = is;
  outcome = subst (λ (x : Parts). m.outcome ≡ (repaired x s depth budget 0).outcome) e outcome;
  listed = subst (λ (x : Parts). IsStateOf x m.plain (repaired x s depth budget 0).state) e listed;
  totals = subst (λ (x : Parts). m.totals ≡ totals x (repaired x s depth budget 0).state) e costs;
}
mended_by p q plain s depth budget (Err f) e is outcome listed costs = tt
