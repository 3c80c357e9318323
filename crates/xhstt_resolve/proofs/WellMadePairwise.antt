-- A relation between each element and all after it, by recursion.
use Rattle.std.proofs.Common.{ℕ, ◌≡◌, ◌≢◌, ◌+◌, ◌<◌, ◌≤◌, suc, zero, Bool, true, false, not, cond, if◌then◌else◌, List}
use Rattle.std.proofs.Common.{[], ◌∷◌, ◌++◌, map, sym, subst, ◌∙◌, arith, All, flat_map, filter, get_or, eqb, le_refl}
use Rattle.std.proofs.Common.{inl, inr}
use Rattle.std.specs.Prelude.{AllPairs}
use Rattle.std.specs.List.{range_with_len}
use Rattle.std.specs.List.Sorted.{IsNonDecreasing}
use Rattle.std.proofs.lemmas.Bool.{cases_lt, eq-eqb, not-true, true≢false}
use Rattle.std.proofs.lemmas.List.Concat.{flat_map-cons}
use Rattle.std.proofs.lemmas.List.Elements.{All-nil, All-cons, All-head, All-tail, All-append, All-map, All-weaker}
use Rattle.std.proofs.lemmas.List.Elements.{All-filter, filter_passes}
use Rattle.xhstt_resolve.specs.Members.{first_mentions, numbers_from, numbers_where}

abbrev pub Pairwise : {X : Type 0} → (X → X → Type 0) → List X → Type 0
Pairwise R [] = Unit {0}
Pairwise R (x ∷ xs) = All (R x) xs × Pairwise R xs

module _ {X : Type 0} (R : X → X → Type 0) where
  pub all_pairs : (xs : List X) → Pairwise R xs → AllPairs R xs
  all_pairs [] h i j d l k = absurd (omega arith)
  all_pairs (x ∷ xs) h i zero d l k = absurd (omega arith)
  all_pairs (x ∷ xs) h zero (suc j) d l k = h.0 j d (omega arith)
  all_pairs (x ∷ xs) h (suc i) (suc j) d l k = all_pairs xs h.1 i j d (omega arith) (omega arith)

  pub Pairwise-append : (xs ys : List X) → Pairwise R xs → Pairwise R ys → All (λ x. All (R x) ys) xs
      → Pairwise R (xs ++ ys)
  Pairwise-append [] ys hx hy across = hy
  Pairwise-append (x ∷ xs) ys hx hy across = (
    All-append (R x) xs ys hx.0 (All-head (λ z. All (R z) ys) x xs across),
    Pairwise-append xs ys hx.1 hy
        (All-tail (λ z. All (R z) ys) x xs across),
  )

  pub Pairwise-map : {Y : Type 0} (f : Y → X) (ys : List Y) → Pairwise (λ a b. R (f a) (f b)) ys → Pairwise R (map f ys)
  Pairwise-map f [] h = tt
  Pairwise-map f (y ∷ ys) h = (All-map (R (f y)) f ys h.0, Pairwise-map f ys h.1)

  pub Pairwise-weaker : (S : X → X → Type 0) → ((a b : X) → S a b → R a b) → (xs : List X) → Pairwise S xs
      → Pairwise R xs
  Pairwise-weaker S w [] h = tt
  Pairwise-weaker S w (x ∷ xs) h = (All-weaker (S x) (R x) (w x) xs h.0, Pairwise-weaker S w xs h.1)

  pub Pairwise-filter : (p : X → Bool) (xs : List X) → Pairwise R xs → Pairwise R (filter p xs)
  Pairwise-filter p [] h = tt
  Pairwise-filter p (x ∷ xs) h = by (p x) (All-filter p (R x) xs h.0) (Pairwise-filter p xs h.1)
    where
      by : (b : Bool) → All (R x) (filter p xs) → Pairwise R (filter p xs)
          → Pairwise R (cond b (x ∷ filter p xs) (filter p xs))
      by true first rest = (first, rest)
      by false first rest = rest

  -- each element of a list before all elements of joined lists
  across_all : {Y : Type 0} (f : Y → List X) (xs : List X) (ys : List Y) → All (λ y. All (λ a. All (R a) (f y)) xs) ys
      → All (λ a. All (R a) (flat_map f ys)) xs
  across_all f xs [] all = λ k d l. All-nil (R (get_or xs k d))
  across_all f xs (y ∷ ys) all =
      let first = All-head (λ z. All (λ a. All (R a) (f z)) xs) y ys all in
      let rest = across_all f xs ys (All-tail (λ z. All (λ a. All (R a) (f z)) xs) y ys all) in
      λ k d l. subst (All (R (get_or xs k d))) (sym (flat_map-cons f y ys))
      (All-append (R (get_or xs k d)) (f y) (flat_map f ys) (first k d l) (rest k d l))

  -- joined lists, where each is in order and the lists of two elements are
  pub Pairwise-flat_map : {Y : Type 0} (S : Y → Y → Type 0) (f : Y → List X) → ((y : Y) → Pairwise R (f y))
      → ((y z : Y) → S y z → All (λ a. All (R a) (f z)) (f y)) → (ys : List Y) → Pairwise S ys
      → Pairwise R (flat_map f ys)
  Pairwise-flat_map S f own across [] h = tt
  Pairwise-flat_map S f own across (y ∷ ys) h =
      subst (Pairwise R) (sym (flat_map-cons f y ys))
      (Pairwise-append (f y) (flat_map f ys) (own y) (Pairwise-flat_map S f own across ys h.1)
      (across_all f (f y) ys (λ k d l. across y (get_or ys k d) (h.0 k d l))))

-- numbers of which each is at most the later ones do not decrease
pub non_decreasing : (xs : List ℕ) → Pairwise (λ a b. a ≤ b) xs → IsNonDecreasing xs
non_decreasing xs h i j d l k = elim (cases_lt i j) [
  | inl below ↦ all_pairs (λ a b. a ≤ b) xs h i j d below k
  | inr above ↦ (let e : i ≡ j = omega arith in subst (λ n. get_or xs i d ≤ get_or xs n d) e (le_refl (get_or xs i d)))
]

-- first mentions are different
apart : (n m : ℕ) → not (eqb m n) ≡ true → n ≢ m
apart n m h e = true≢false (sym (eq-eqb m n (sym e)) ∙ not-true (eqb m n) h)

pub first_mentions_differ : (ns : List ℕ) → Pairwise (λ a b. a ≢ b) (first_mentions ns)
first_mentions_differ [] = tt
first_mentions_differ (n ∷ ns) =
    let other = λ (m : ℕ). not (eqb m n) in (
      All-weaker (λ m. other m ≡ true) (λ m. n ≢ m) (λ m h. apart n m h) (filter other (first_mentions ns))
          (filter_passes other (first_mentions ns)),
      Pairwise-filter (λ a b. a ≢ b) other (first_mentions ns) (first_mentions_differ ns),
    )

-- the numbers of items rise
module _ {X : Type 0} (test : X → Bool) where
  numbers_above : (k : ℕ) (xs : List X) → All (λ n. k ≤ n) (numbers_from test k xs)
  numbers_above k [] = All-nil (λ n. k ≤ n)
  numbers_above k (x ∷ xs) =
      let lower : (n : ℕ) → k + 1 ≤ n → k ≤ n = λ n l. omega arith in
      by (test x) (All-weaker (λ n. k + 1 ≤ n) (λ n. k ≤ n) lower (numbers_from test (k + 1) xs)
      (numbers_above (k + 1) xs))
    where
      by : (b : Bool) → All (λ n. k ≤ n) (numbers_from test (k + 1) xs)
          → All (λ n. k ≤ n) ((if b then k ∷ [] else []) ++ numbers_from test (k + 1) xs)
      by true later = All-cons (λ n. k ≤ n) k (numbers_from test (k + 1) xs) (le_refl k) later
      by false later = later

  numbers_rise : (k : ℕ) (xs : List X) → Pairwise (λ a b. a < b) (numbers_from test k xs)
  numbers_rise k [] = tt
  numbers_rise k (x ∷ xs) =
      let above : (n : ℕ) → k + 1 ≤ n → k < n = λ n l. omega arith in
      by (test x) (All-weaker (λ n. k + 1 ≤ n) (λ n. k < n) above (numbers_from test (k + 1) xs)
      (numbers_above (k + 1) xs)) (numbers_rise (k + 1) xs)
    where
      by : (b : Bool) → All (λ n. k < n) (numbers_from test (k + 1) xs)
          → Pairwise (λ a b. a < b) (numbers_from test (k + 1) xs)
          → Pairwise (λ a b. a < b) ((if b then k ∷ [] else []) ++ numbers_from test (k + 1) xs)
      by true first later = (first, later)
      by false first later = later

  pub numbers_differ : (xs : List X) → Pairwise (λ a b. a ≢ b) (numbers_where test xs)
  numbers_differ xs = Pairwise-weaker (λ a b. a ≢ b) (λ a b. a < b) (λ a b l e. omega arith) (numbers_where test xs)
      (numbers_rise 0 xs)

-- the numbers of a range rise
range_above : (a n : ℕ) → All (λ m. a ≤ m) (range_with_len a n)
range_above a zero = All-nil (λ m. a ≤ m)
range_above a (suc n) =
    let lower : (m : ℕ) → a + 1 ≤ m → a ≤ m = λ m l. omega arith in
    All-cons (λ m. a ≤ m) a (range_with_len (a + 1) n) (le_refl a)
    (All-weaker (λ m. a + 1 ≤ m) (λ m. a ≤ m) lower (range_with_len (a + 1) n) (range_above (a + 1) n))

pub range_differs : (a n : ℕ) → Pairwise (λ a b. a ≢ b) (range_with_len a n)
range_differs a zero = tt
range_differs a (suc n) =
    let differs : (m : ℕ) → a + 1 ≤ m → a ≢ m = λ m l e. omega arith in (
      All-weaker (λ m. a + 1 ≤ m) (λ m. a ≢ m) differs (range_with_len (a + 1) n) (range_above (a + 1) n),
      range_differs
          (a + 1) n,
    )

pub range_below : (a n : ℕ) → All (λ m. m < a + n) (range_with_len a n)
range_below a zero = All-nil (λ m. m < a + 0)
range_below a (suc n) =
    let wider : (m : ℕ) → m < a + 1 + n → m < a + suc n = λ m l. omega arith in
    All-cons (λ m. m < a + suc n) a (range_with_len (a + 1) n) (omega arith)
    (All-weaker (λ m. m < a + 1 + n) (λ m. m < a + suc n) wider (range_with_len (a + 1) n) (range_below (a + 1) n))
