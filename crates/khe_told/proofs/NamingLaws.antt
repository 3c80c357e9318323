-- What changes give at a place that none of them names, and lists that are the same at each place.
use Rattle.std.proofs.Common.{ℕ, ◌≡◌, ◌≤◌, ◌<◌, ◌+◌, ◌∙◌, ◌⊎◌, inl, inr, zero, suc, false, Option, Some, None}
use Rattle.std.proofs.Common.{List, [], ◌∷◌, ◌++◌, length, take, drop, get_or, slice_get, refl, sym, ap, arith}
use Rattle.std.specs.Prelude.{◌==◌, ◌||◌, slice_set}
use Rattle.std.specs.List.{list_any}
use Rattle.std.proofs.lemmas.Bool.{cases_lt, eq-eqb, or_parts, true≢false}
use Rattle.std.proofs.lemmas.List.{take_all}
use Rattle.std.proofs.lemmas.List.Folds.{list_any_more}
use Rattle.std.proofs.lemmas.Option.{none-some, same_Some, slice_get-get_or, slice_get_past}
use Rattle.khe_base.proofs.ListLemmas.{get-other}
use Rattle.khe_base.specs.declared.numbers.ResourceId.{ResourceId}
use Rattle.khe_told.specs.Changes.{after, after_all, changed, given_after, meet_of}
use Rattle.khe_told.specs.Naming.{AreSameBut, gives_at, is_named}
use Rattle.khe_told.specs.Slots.{slot_at}
use Rattle.khe_told.specs.declared.changes.Change.{Change}
use Rattle.khe_told.specs.declared.changes.Change.TheVariants.{Add, Drop, Place as PlaceAt, Lift, Give, Take}
use Rattle.khe_told.specs.declared.naming.Places.{Places}
use Rattle.khe_told.specs.declared.slots.Slot.{Slot}

other : (m j : ℕ) → (m == j) ≡ false → m ≡ j → ⊥
other m j h e = true≢false (sym (eq-eqb m j e) ∙ h)

-- what a slot's places are given after a change of it
given_changed : (c : Change) (given : List (Option ResourceId)) (j : ℕ) → gives_at j c ≡ false
    → slice_get given j ≡ slice_get (given_after given c) j
given_changed (Add m d) given j h = refl
given_changed (Drop m d) given j h = refl
given_changed (PlaceAt m t) given j h = refl
given_changed (Lift m t) given j h = refl
given_changed (Give t r) given j h = sym (get-other given t.place j (Some r) (other t.place j h))
given_changed (Take t r) given j h = sym (get-other given t.place j None (other t.place j h))

-- a slot is the one that was set, or as it was
set_either : (s : List Slot) (m k : ℕ) (x : Slot)
    → ((m ≡ k) × (slot_at (slice_set s m x) k ≡ x)) ⊎ (slot_at (slice_set s m x) k ≡ slot_at s k)
set_either [] m k x = inr refl
set_either (y ∷ s) zero zero x = inl (refl, refl)
set_either (y ∷ s) zero (suc k) x = inr refl
set_either (y ∷ s) (suc m) zero x = inr refl
set_either (y ∷ s) (suc m) (suc k) x = by (set_either s m k x)
  where
    by : ((m ≡ k) × (slot_at (slice_set s m x) k ≡ x)) ⊎ (slot_at (slice_set s m x) k ≡ slot_at s k)
        → ((suc m ≡ suc k) × (slot_at (slice_set s m x) k ≡ x)) ⊎ (slot_at (slice_set s m x) k ≡ slot_at s k)
    by (inl e) = inl (ap suc e.0, e.1)
    by (inr e) = inr e

given_then : (c : Change) (s : List Slot) (j k : ℕ) → gives_at j c ≡ false
    → slice_get (slot_at s k).given j ≡ slice_get (slot_at (after s c) k).given j
given_then c s j k h = by (set_either s (meet_of c) k (changed (slot_at s (meet_of c)) c))
  where
    by : ((meet_of c ≡ k) × (slot_at (after s c) k ≡ changed (slot_at s (meet_of c)) c))
        ⊎ (slot_at (after s c) k ≡ slot_at s k)
        → slice_get (slot_at s k).given j ≡ slice_get (slot_at (after s c) k).given j
    by (inl e) = ap (λ n. slice_get (slot_at s n).given j) (sym e.0)
        ∙ given_changed c (slot_at s (meet_of c)).given j h
        ∙ ap (λ (x : Slot). slice_get x.given j) (sym e.1)
    by (inr e) = ap (λ (x : Slot). slice_get x.given j) (sym e)

-- after changes of which none names a place, each slot's is given what it was
given_elsewhere : (cs : List Change) (s : List Slot) (j k : ℕ) → list_any (gives_at j) cs ≡ false
    → slice_get (slot_at s k).given j ≡ slice_get (slot_at (after_all s cs) k).given j
given_elsewhere [] s j k h = refl
given_elsewhere (c ∷ cs) s j k h =
    let parts = or_parts (gives_at j c) (list_any (gives_at j) cs) h in
    given_then c s j k parts.0 ∙ given_elsewhere cs (after s c) j k parts.1

-- all places but these are named by none of n changes
abbrev pub AreNamed : Places → List Change → ℕ → Type 0
AreNamed places cs i = (j : ℕ) → is_named places j ≡ false → list_any (gives_at j) (take i cs) ≡ false

pub named_more : (places next : Places) (cs : List Change) (i : ℕ) (d : Change) → i < length cs
    → AreNamed places cs i
    → ((j : ℕ) → is_named next j ≡ false → (is_named places j ≡ false) × (gives_at j (get_or cs i d) ≡ false))
    → AreNamed next cs (i + 1)
named_more places next cs i d l h more j n =
    let parts = more j n in
    list_any_more (gives_at j) cs i d l ∙ (λ k. h j parts.0 k || parts.1 k)

pub named_all : (places : Places) (cs : List Change) (i : ℕ) (s : List Slot) (k : ℕ) → length cs ≤ i
    → AreNamed places cs i → AreSameBut places (slot_at s k).given (slot_at (after_all s cs) k).given
named_all places cs i s k l h j n =
    given_elsewhere cs s j k (ap (list_any (gives_at j)) (sym (take_all i cs l)) ∙ h j n)

-- lists that are the same at each place are the same
pub same_lists : {A : Type 0} (xs ys : List A) → ((j : ℕ) → slice_get xs j ≡ slice_get ys j) → xs ≡ ys
same_lists [] [] h = refl
same_lists {A} [] (y ∷ ys) h = absurd (none-some y (h 0))
same_lists {A} (x ∷ xs) [] h = absurd (none-some x (sym (h 0)))
same_lists (x ∷ xs) (y ∷ ys) h = λ i. same_Some x y (h 0) i ∷ same_lists xs ys (λ j. h (suc j)) i

-- the places below a number are the same
abbrev pub AreSameBelow : {A : Type 0} → ℕ → List A → List A → Type 0
AreSameBelow {A} n xs ys = (j : ℕ) → j < n → slice_get xs j ≡ slice_get ys j

-- and those up to another
pub below_next : {A : Type 0} (n next : ℕ) (xs ys : List A) → AreSameBelow n xs ys
    → ((j : ℕ) → n ≤ j → j < next → slice_get xs j ≡ slice_get ys j) → AreSameBelow next xs ys
below_next {A} n next xs ys h more j l = by (cases_lt j n)
  where
    by : (j < n) ⊎ (n ≤ j) → slice_get xs j ≡ slice_get ys j
    by (inl a) = h j a
    by (inr a) = more j a l

-- and the one at hand
pub below_more : {A : Type 0} (n : ℕ) (xs ys : List A) (d : A) → AreSameBelow n xs ys → n < length xs → n < length ys
    → get_or xs n d ≡ get_or ys n d → AreSameBelow (n + 1) xs ys
below_more {A} n xs ys d h l m e = below_next n (n + 1) xs ys h more
  where
    more : (j : ℕ) → n ≤ j → j < n + 1 → slice_get xs j ≡ slice_get ys j
    more j a b =
        let is : n ≡ j = omega (arith, a, b) in
        ap (slice_get xs) (sym is) ∙ slice_get-get_or xs n d l ∙ ap Some e ∙ sym (slice_get-get_or ys n d m)
        ∙ ap (slice_get ys) is

-- and so all
pub below_all : {A : Type 0} (n : ℕ) (xs ys : List A) → length xs ≤ n → length ys ≡ length xs → AreSameBelow n xs ys
    → xs ≡ ys
below_all {A} n xs ys l many h = same_lists xs ys all
  where
    all : (j : ℕ) → slice_get xs j ≡ slice_get ys j
    all j = by (cases_lt j n)
      where
        by : (j < n) ⊎ (n ≤ j) → slice_get xs j ≡ slice_get ys j
        by (inl a) = h j a
        by (inr a) = slice_get_past xs j (omega (arith, a, l)) ∙ sym (slice_get_past ys j (omega (arith, a, l, many)))

-- of the first n from one list and the rest from another more are from the one, where both are the same there
pub mixed : {A : Type 0} (vs xs : List A) (k next : ℕ) → length vs ≡ length xs → k ≤ next
    → ((j : ℕ) → k ≤ j → j < next → slice_get xs j ≡ slice_get vs j)
    → take k vs ++ drop k xs ≡ take next vs ++ drop next xs
mixed vs xs zero zero many l h = refl
mixed vs xs (suc k) zero many l h = absurd (omega (arith, l))
mixed [] [] zero (suc next) many l h = refl
mixed [] [] (suc k) (suc next) many l h = refl
mixed [] (x ∷ xs) zero (suc next) many l h = absurd (omega (arith, many))
mixed [] (x ∷ xs) (suc k) (suc next) many l h = absurd (omega (arith, many))
mixed (v ∷ vs) [] zero (suc next) many l h = absurd (omega (arith, many))
mixed (v ∷ vs) [] (suc k) (suc next) many l h = absurd (omega (arith, many))
mixed (v ∷ vs) (x ∷ xs) zero (suc next) many l h =
    λ i. same_Some x v (h 0 (omega arith) (omega arith)) i
    ∷ mixed vs xs 0 next (omega (arith, many)) (omega arith) (λ j a b. h (suc j) (omega arith) (omega (arith, b))) i
mixed (v ∷ vs) (x ∷ xs) (suc k) (suc next) many l h =
    ap (λ rest. v ∷ rest)
    (mixed vs xs k next (omega (arith, many)) (omega (arith, l)) (λ j a b. h (suc j) (omega (arith, a)) (omega (arith, b))))
