-- A demand is given a free supply, or loses the one that it has.
use Rattle.std.proofs.Common.{ℕ, ◌<◌, ◌≡◌, ◌≢◌, Bool, true, Option, Some, None, List, length, get_or, set, sym, ap, ◌∙◌}
use Rattle.std.proofs.Common.{inl, inr, ◌⊎◌, get_or-set_same, get_or-set_other}
use Rattle.demand_matching.specs.Assigned.{IsMatching}
use Rattle.demand_matching.proofs.Counting.{cases_eqb}

pub is_or_not : (o : Option ℕ) (u : ℕ) → (o ≡ Some u) ⊎ (o ≡ Some u → ⊥)
is_or_not None u = inr (λ e. cc)
is_or_not (Some v) u = elim (cases_eqb v u) [ inl x ↦ inl (ap Some x) | inr x ↦ inr (λ e. x cc) ]

pub given : (n m : ℕ) (may : ℕ → ℕ → Bool) (gets owner gets' owner' : ℕ → Option ℕ) (d s : ℕ)
    → IsMatching n m may gets owner → d < n → s < m → may d s ≡ true → owner s ≡ None → gets d ≡ None
    → gets' d ≡ Some s → ((e : ℕ) → e ≢ d → gets' e ≡ gets e) → owner' s ≡ Some d
    → ((u : ℕ) → u ≢ s → owner' u ≡ owner u) → IsMatching n m may gets' owner'
given n m may gets owner gets' owner' d s is l k ok free none its others now rest = record {
  demand = λ e u h. elim (cases_eqb e d) [ inl x ↦ rw x l | inr x ↦ is.demand e u (sym (others e x) ∙ h) ];
  supply = λ e u h. elim (cases_eqb e d) [
    | inl x ↦ let y : s ≡ u = (let z : gets' d ≡ Some u = ap gets' (sym x) ∙ h in cc) in rw (← y) k
    | inr x ↦ is.supply e u (sym (others e x) ∙ h)
  ];
  allowed = λ e u h. elim (cases_eqb e d) [
    | inl x ↦ let y : s ≡ u = (let z : gets' d ≡ Some u = ap gets' (sym x) ∙ h in cc) in rw (x, ← y) ok
    | inr x ↦ is.allowed e u (sym (others e x) ∙ h)
  ];
  owned = λ e u h. elim (cases_eqb e d) [
    | inl x ↦ let y : s ≡ u = (let z : gets' d ≡ Some u = ap gets' (sym x) ∙ h in cc) in rw (x, ← y) now
    | inr x ↦
        let before : owner u ≡ Some e = is.owned e u (sym (others e x) ∙ h) in
        let ne : u ≢ s = λ z. (let w : owner s ≡ Some e = ap owner (sym z) ∙ before in absurd cc) in
        rest u ne ∙ before
  ];
  holds = λ u e h. elim (cases_eqb u s) [
    | inl x ↦ let y : d ≡ e = (let z : owner' s ≡ Some e = ap owner' (sym x) ∙ h in cc) in rw (x, ← y) its
    | inr x ↦
        let before : gets e ≡ Some u = is.holds u e (sym (rest u x) ∙ h) in
        let ne : e ≢ d = λ z. (let w : gets d ≡ Some u = ap gets (sym z) ∙ before in absurd cc) in
        others e ne ∙ before
  ];
}

pub released : (n m : ℕ) (may may' : ℕ → ℕ → Bool) (gets owner gets' owner' : ℕ → Option ℕ) (d : ℕ)
    → IsMatching n m may gets owner → ((e u : ℕ) → e ≢ d → may' e u ≡ may e u)
    → gets' d ≡ None → ((e : ℕ) → e ≢ d → gets' e ≡ gets e) → ((u : ℕ) → gets d ≡ Some u → owner' u ≡ None)
    → ((u : ℕ) → (gets d ≡ Some u → ⊥) → owner' u ≡ owner u) → IsMatching n m may' gets' owner'
released n m may may' gets owner gets' owner' d is same none others freed rest = record {
  demand = λ e u h. is.demand e u (sym (others e (not_it e u h)) ∙ h);
  supply = λ e u h. is.supply e u (sym (others e (not_it e u h)) ∙ h);
  allowed = λ e u h. same e u (not_it e u h) ∙ is.allowed e u (sym (others e (not_it e u h)) ∙ h);
  owned = λ e u h.
      let before : owner u ≡ Some e = is.owned e u (sym (others e (not_it e u h)) ∙ h) in
      rest u (λ z. not_it e u h (let w : owner u ≡ Some d = is.owned d u z in cc)) ∙ before;
  holds = λ u e h. elim (is_or_not (gets d) u) [
    | inl x ↦ (let y : owner' u ≡ None = freed u x in absurd cc)
    | inr x ↦
        let before : gets e ≡ Some u = is.holds u e (sym (rest u x) ∙ h) in
        others e (λ z. x (ap gets (sym z) ∙ before)) ∙ before
  ];
} where
  not_it : (e u : ℕ) → gets' e ≡ Some u → e ≢ d
  not_it e u h z = (let w : gets' d ≡ Some u = ap gets' (sym z) ∙ h in cc)

-- the value of a list after one write
pub written : {X : Type 0} (xs : List X) (i : ℕ) (a d : X) → i < length xs → get_or (set xs i a) i d ≡ a
written xs i a d l = get_or-set_same xs i a d l

pub kept : {X : Type 0} (xs : List X) (i j : ℕ) (a d : X) → j ≢ i → get_or (set xs i a) j d ≡ get_or xs j d
kept xs i j a d ne = get_or-set_other xs i j a d ne
