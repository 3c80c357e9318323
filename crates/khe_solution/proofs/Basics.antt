-- Tests, options and lists of refusals.
use Rattle.std.proofs.Common.{ℕ, ◌≡◌, ◌<◌, zero, suc, Bool, true, false, cond, Option, Some, None, List, [], ◌∷◌}
use Rattle.std.proofs.Common.{length, set, refl, sym, ap, subst, ◌∙◌, arith, inl, inr, ◌⊎◌}
use Rattle.std.specs.Prelude.{not, is_some, is_none, slice_get}
use Rattle.std.proofs.lemmas.Bool.{cases_lt}
use Rattle.std.proofs.lemmas.List.{get_or_past}
use Rattle.khe_told.specs.Slots.{no_slot, slot_at, is_live}
use Rattle.khe_told.specs.declared.slots.Slot.{Slot}
use Rattle.khe_told.specs.declared.refusals.Refusal.{Refusal}
use Rattle.khe_solution.specs.Refusing.{first_refusal}

abbrev pub IsThere : {A : Type 0} → Option A → Type 0
IsThere None = ⊥
IsThere (Some a) = Unit {0}

pub there-none : {A : Type 0} (a : A) → Some a ≡ None → ⊥
there-none a h = subst IsThere h tt

abbrev IsYes : Bool → Type 0
IsYes true = Unit {0}
IsYes false = ⊥

pub true-false : true ≡ false → ⊥
true-false k = subst IsYes k tt

pub not-false : (b : Bool) → not b ≡ false → b ≡ true
not-false true h = refl
not-false false h = sym h

pub some_value : {A : Type 0} (o : Option A) → is_some o ≡ true → (a : A) × (o ≡ Some a)
some_value (Some a) h = (a, refl)
some_value None h = absurd (true-false (sym h))

pub not_none : {A : Type 0} (o : Option A) → is_none o ≡ false → (a : A) × (o ≡ Some a)
not_none (Some a) h = (a, refl)
not_none None h = absurd (true-false h)

pub no_value : {A : Type 0} (o : Option A) → is_some o ≡ false → o ≡ None
no_value None h = refl
no_value (Some a) h = absurd (true-false h)

pub cases_eq : (a b : ℕ) → (a ≡ b) ⊎ (a ≡ b → ⊥)
cases_eq a b = elim (cases_lt a b) [
  | inl l ↦ inr (λ e. omega (arith, l, e))
  | inr g ↦ elim (cases_lt b a) [ inl m ↦ inr (λ e. omega (arith, m, e)) | inr f ↦ inl (omega (arith, f, g)) ]
]

-- two writes at two places of a list may change sides
pub set_comm : {A : Type 0} (xs : List A) (i j : ℕ) (a b : A) → (j ≡ i → ⊥)
    → set (set xs i a) j b ≡ set (set xs j b) i a
set_comm [] i j a b n = refl
set_comm (x ∷ xs) zero zero a b n = absurd (n refl)
set_comm (x ∷ xs) zero (suc j) a b n = refl
set_comm (x ∷ xs) (suc i) zero a b n = refl
set_comm (x ∷ xs) (suc i) (suc j) a b n = ap (λ ys. x ∷ ys) (set_comm xs i j a b (λ e. n (ap suc e)))

pub slice_get-set_other : {A : Type 0} (xs : List A) (i k : ℕ) (a : A) → (k ≡ i → ⊥)
    → slice_get (set xs i a) k ≡ slice_get xs k
slice_get-set_other [] i k a n = refl
slice_get-set_other (x ∷ xs) zero zero a n = absurd (n refl)
slice_get-set_other (x ∷ xs) zero (suc k) a n = refl
slice_get-set_other (x ∷ xs) (suc i) zero a n = refl
slice_get-set_other (x ∷ xs) (suc i) (suc k) a n = slice_get-set_other xs i k a (λ e. n (ap suc e))

-- where no test of a row holds, each is false
abbrev pub AllPass : List (Bool × Refusal) → Type 0
AllPass [] = Unit {0}
AllPass (q ∷ rest) = (q.0 ≡ false) × AllPass rest

passes : (t : Bool) (r : Refusal) (rest : List (Bool × Refusal)) → cond t (Some r) (first_refusal rest) ≡ None
    → (t ≡ false) × (first_refusal rest ≡ None)
passes true r rest h = absurd (there-none r h)
passes false r rest h = (refl, h)

pub passed : (row : List (Bool × Refusal)) → first_refusal row ≡ None → AllPass row
passed [] h = tt
passed ((test, r) ∷ rest) h = let a = passes test r rest h in (a.0, passed rest a.1)

-- a live meet is one of the slots
pub live_there : (s : List Slot) (m : ℕ) → is_live (slot_at s m) ≡ true → m < length s
live_there s m h = elim (cases_lt m (length s)) [
  | inl l ↦ l
  | inr g ↦ let v = some_value (slot_at s m).span h in
      absurd (there-none v.0 (sym v.1 ∙ ap (λ (x : Slot). x.span) (get_or_past s m no_slot g)))
]
