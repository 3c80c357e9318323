-- Lists that are made of pieces, one for each element of another list.
use Rattle.std.proofs.Common.{ℕ, ◌≡◌, ◌∙◌, ◌+◌, ◌<◌, ◌≤◌, Bool, true, false, if◌then◌else◌, Some, List, [], ◌∷◌, ◌++◌}
use Rattle.std.proofs.Common.{length, map, get_or, slice_get, refl, sym, subst, arith, zero, suc}
use Rattle.std.specs.Prelude.{All, find}
use Rattle.std.specs.List.{filter, flat_map, enumerate_from}
use Rattle.std.specs.List.Sorted.{IsStrictlyIncreasing}
use Rattle.std.proofs.lemmas.List.{append-nil, map-append}
use Rattle.std.proofs.lemmas.List.Concat.{flat_map-append}
use Rattle.std.proofs.lemmas.List.Elements.{All-nil, All-cons, All-head, All-tail, filter-append}
use Rattle.std.proofs.lemmas.Option.{same_Some}

-- what is true of each element that passes a test
pub All-filter : {X : Type 0} (test : X → Bool) (Q R : X → Type 0) (xs : List X) → ((x : X) → Q x → test x ≡ true → R x)
    → All Q xs → All R (filter test xs)
All-filter test Q R [] step h = All-nil R
All-filter {X} test Q R (x ∷ xs) step h = by (test x) refl (All-head Q x xs h)
    (All-filter test Q R xs step (All-tail Q x xs h))
  where
    by : (b : Bool) → test x ≡ b → Q x → All R (filter test xs)
        → All R (if b then x ∷ filter test xs else filter test xs)
    by true e q rest = All-cons R x (filter test xs) (step x q e) rest
    by false e q rest = rest

-- what is true of the element that is found
pub found : {X : Type 0} (test : X → Bool) (P : X → Type 0) (xs : List X) (x : X) → find test xs ≡ Some x → All P xs
    → P x × (test x ≡ true)
found test P [] x h all = cc
found {X} test P (y ∷ ys) x h all = by (test y) refl h (All-head P y ys all)
    (λ later. found test P ys x later (All-tail P y ys all))
  where
    by : (b : Bool) → test y ≡ b → (if b then Some y else find test ys) ≡ Some x → P y
        → (find test ys ≡ Some x → P x × (test x ≡ true)) → P x × (test x ≡ true)
    by true e at holds later =
        let same = same_Some y x at in
        (subst P same holds, subst (λ z. test z ≡ true) same e)
    by false e at holds later = later at

-- the elements of a list with their numbers
pub All-numbered : {X : Type 0} (Q : ℕ × X → Type 0) (n : ℕ) (xs : List X)
    → ((i : ℕ) (x : X) → slice_get xs i ≡ Some x → Q (n + i, x)) → All Q (enumerate_from n xs)
All-numbered Q n [] h = All-nil Q
All-numbered Q n (x ∷ xs) h =
    let here : n + 0 ≡ n = omega arith in
    All-cons Q (n, x) (enumerate_from (n + 1) xs) (subst (λ k. Q (k, x)) here (h 0 x refl))
    (All-numbered Q (n + 1) xs (λ i y e. let next : n + suc i ≡ n + 1 + i = omega arith in
    subst (λ k. Q (k, y)) next (h (suc i) y e)))

pub record IsSlotted {X : Type 0} (P : X → Type 0) (first end : ℕ) (q : ℕ × X) : Type 0 where
  pub after : first ≤ q.0
  pub before : q.0 < end
  pub holds : P q.1

pub All-slotted : {X : Type 0} (P : X → Type 0) (first n end : ℕ) (xs : List X) → first ≤ n → n + length xs ≤ end
    → All P xs → All (IsSlotted P first end) (enumerate_from n xs)
All-slotted P first n end [] h l all = All-nil (IsSlotted P first end)
All-slotted P first n end (x ∷ xs) h l all =
    All-cons (IsSlotted P first end) (n, x) (enumerate_from (n + 1) xs)
    (record { after = h; before = omega arith; holds = All-head P x xs all })
    (All-slotted P first (n + 1) end xs (omega arith) (omega arith) (All-tail P x xs all))

-- the piece of one element, where a test passes its elements and no others
filter-later : {X A : Type 0} (test : A → Bool) (f : ℕ × X → List A) (e : ℕ)
    → ((k : ℕ) (x : X) → (k ≡ e → ⊥) → filter test (f (k, x)) ≡ [])
    → (n : ℕ) (xs : List X) → e < n → filter test (flat_map f (enumerate_from n xs)) ≡ []
filter-later test f e other n [] h = refl
filter-later test f e other n (x ∷ xs) h =
    let first = other n x (λ q. omega arith) in
    let rest = filter-later test f e other (n + 1) xs (omega arith) in
    filter-append test (f (n, x)) (flat_map f (enumerate_from (n + 1) xs)) ∙ (λ j. first j ++ rest j)

pub filter-picks : {X A : Type 0} (test : A → Bool) (f : ℕ × X → List A) (e : ℕ)
    → ((x : X) → filter test (f (e, x)) ≡ f (e, x)) → ((k : ℕ) (x : X) → (k ≡ e → ⊥) → filter test (f (k, x)) ≡ [])
    → (n i : ℕ) (xs : List X) (x : X) → n + i ≡ e → slice_get xs i ≡ Some x
    → filter test (flat_map f (enumerate_from n xs)) ≡ f (e, x)
filter-picks test f e own other n i [] x at h = cc
filter-picks test f e own other n zero (y ∷ ys) x at h =
    let here : n ≡ e = omega arith in
    let same = same_Some y x h in
    let first : filter test (f (n, y)) ≡ f (e, x) = (λ j. filter test (f (here j, same j))) ∙ own x in
    let rest = filter-later test f e other (n + 1) ys (omega arith) in
    filter-append test (f (n, y)) (flat_map f (enumerate_from (n + 1) ys)) ∙ (λ j. first j ++ rest j)
    ∙ append-nil (f (e, x))
filter-picks test f e own other n (suc i) (y ∷ ys) x at h =
    let first = other n y (λ q. omega arith) in
    let rest = filter-picks test f e own other (n + 1) i ys x (omega arith) h in
    filter-append test (f (n, y)) (flat_map f (enumerate_from (n + 1) ys)) ∙ (λ j. first j ++ rest j)

-- a function of all elements of all pieces
pub map-pieces : {X A B C : Type 0} (g : A → C) (h : B → List C) (f : X → List A) (k : X → List B) (xs : List X)
    → All (λ x. map g (f x) ≡ flat_map h (k x)) xs
    → map g (flat_map f xs) ≡ flat_map h (flat_map k xs)
map-pieces g h f k [] all = refl
map-pieces g h f k (x ∷ xs) all =
    let first = All-head (λ y. map g (f y) ≡ flat_map h (k y)) x xs all in
    let rest = map-pieces g h f k xs (All-tail (λ y. map g (f y) ≡ flat_map h (k y)) x xs all) in
    map-append g (f x) (flat_map f xs) ∙ (λ i. first i ++ rest i) ∙ sym (flat_map-append h (k x) (flat_map k xs))

-- numbers that rise, from a number up to another
abbrev pub Rises : ℕ → List ℕ → ℕ → Type 0
Rises low [] high = low ≤ high
Rises low (x ∷ xs) high = (low ≤ x) × Rises (x + 1) xs high

pub Rises-lower : (low lower high : ℕ) (xs : List ℕ) → lower ≤ low → Rises low xs high → Rises lower xs high
Rises-lower low lower high [] h r = omega arith
Rises-lower low lower high (x ∷ xs) h r = (omega (arith, r.0), r.1)

pub Rises-append : (low mid high : ℕ) (xs ys : List ℕ) → Rises low xs mid → Rises mid ys high
    → Rises low (xs ++ ys) high
Rises-append low mid high [] ys r s = Rises-lower mid low high ys r s
Rises-append low mid high (x ∷ xs) ys r s = (r.0, Rises-append (x + 1) mid high xs ys r.1 s)

next-rises : (low high : ℕ) (xs : List ℕ) → Rises low xs high → (k : ℕ) → k + 1 < length xs
    → get_or xs k 0 < get_or xs (k + 1) 0
next-rises low high [] r k h = absurd (omega arith)
next-rises low high (x ∷ []) r k h = absurd (omega arith)
next-rises low high (x ∷ y ∷ ys) r zero h = let below : x < y = omega (arith, (r.1).0) in below
next-rises low high (x ∷ y ∷ ys) r (suc k) h =
    let next : suc (k + 1) ≡ suc k + 1 = omega arith in
    subst (λ i. get_or (y ∷ ys) k 0 < get_or (x ∷ y ∷ ys) i 0) next
    (next-rises (x + 1) high (y ∷ ys) r.1 k (omega arith))

pub Rises-strictly : (low high : ℕ) (xs : List ℕ) → Rises low xs high → IsStrictlyIncreasing xs
Rises-strictly low high xs r = λ k h. next-rises low high xs r k h
