-- What stands at a place of a list, and lists that are joined, for the proofs of all layers.
use Rattle.std.proofs.Common.{ℕ, ◌≡◌, ◌+◌, ◌<◌, Bool, true, false, not, cond, ◌||◌, Some, List, [], ◌∷◌, ◌++◌, length}
use Rattle.std.proofs.Common.{get_or, if◌then◌else◌, drop, map, map-id, refl, sym, ap, subst, ◌∙◌, add-one, zero-add}
use Rattle.std.proofs.Common.{arith, drop-cons, zero, suc, slice_get, option_map, ltb, set, All, flat_map, take, ◌≤◌}
use Rattle.std.specs.Option.{option_map_or}
use Rattle.std.specs.List.{enumerate_from, filter, list_any, position_or_len, range_with_len, sum_by}
use Rattle.std.proofs.lemmas.Bool.Decides.{nat_tests}
use Rattle.std.proofs.lemmas.List.Concat.{flat_map-cons}
use Rattle.std.proofs.lemmas.List.Elements.{All-nil, All-cons, All-head, All-tail, All-append, All-get_or}
use Rattle.std.proofs.lemmas.List.FromFn.{map-range_with_len_more}
use Rattle.std.proofs.lemmas.List.Folds.{fold-map}
use Rattle.std.proofs.lemmas.Option.{get_or_from_slice_get, slice_get_within, slice_get-map}

-- an element that is there
pub record IsThere {A : Type 0} (xs : List A) (i : ℕ) : Type 0 where
  pub value : A
  pub found : slice_get xs i ≡ Some value

pub there : {A : Type 0} (xs : List A) (i : ℕ) → i < length xs → IsThere xs i
there [] i l = absurd (omega arith)
there (x ∷ xs) zero l = record { value = x; found = refl }
there (x ∷ xs) (suc i) l = let below : i < length xs = omega arith in let r = there xs i below in
    record { value = r.value; found = r.found }

-- what is true of all is true of it
pub all-there : {A : Type 0} (P : A → Type 0) (xs : List A) (i : ℕ) (x : A) → All P xs → slice_get xs i ≡ Some x → P x
all-there P xs i x all at = subst P (get_or_from_slice_get xs i x x at)
    (All-get_or P xs i x (slice_get_within xs i x at) all)

-- what is left from its place on begins with it
pub drop-there : {A : Type 0} (xs : List A) (i : ℕ) (x : A) → slice_get xs i ≡ Some x → drop i xs ≡ x ∷ drop (i + 1) xs
drop-there xs i x at =
    drop-cons xs i x (slice_get_within xs i x at) ∙ ap (λ y. y ∷ drop (suc i) xs) (get_or_from_slice_get xs i x x at)
    ∙ ap (λ k. x ∷ drop k xs) (sym (add-one i))

-- what stands at a place of a mapped list
pub mapped-there : {A B : Type 0} (f : A → B) (xs : List A) (i : ℕ) (x : A) (d : B) → slice_get xs i ≡ Some x
    → get_or (map f xs) i d ≡ f x
mapped-there f xs i x d at = get_or_from_slice_get (map f xs) i (f x) d (slice_get-map f xs i ∙ ap (option_map f) at)

-- two lists that together are none are none
pub none_of : {A : Type 0} (xs ys : List A) → xs ++ ys ≡ [] → (xs ≡ []) × (ys ≡ [])
none_of [] ys e = (refl, e)
none_of (x ∷ xs) ys e = absurd (let g : ⊥ = cc in g)

-- where nothing is given in all, no element gives anything
pub none-each : {A B : Type 0} (f : A → List B) (xs : List A) → flat_map f xs ≡ [] → All (λ x. f x ≡ []) xs
none-each f [] e = All-nil (λ x. f x ≡ [])
none-each f (x ∷ xs) e =
    let parts = none_of (f x) (flat_map f xs) (sym (flat_map-cons f x xs) ∙ e) in
    All-cons (λ y. f y ≡ []) x xs parts.0 (none-each f xs parts.1)

-- what is true of all that each element gives is true of all that is given
pub All-flat_map : {A B : Type 0} (P : B → Type 0) (f : A → List B) (xs : List A) → All (λ x. All P (f x)) xs
    → All P (flat_map f xs)
All-flat_map P f [] each = All-nil P
All-flat_map P f (x ∷ xs) each =
    subst (All P) (sym (flat_map-cons f x xs))
    (All-append P (f x) (flat_map f xs) (All-head (λ y. All P (f y)) x xs each)
    (All-flat_map P f xs (All-tail (λ y. All P (f y)) x xs each)))

-- a test that an element passes has a first place, which is one of the list
pub below_length : {A : Type 0} (p : A → Bool) (xs : List A) → ltb (position_or_len p xs) (length xs) ≡ list_any p xs
below_length p [] = refl
below_length p (x ∷ xs) = by (p x) (below_length p xs)
  where
    by : (b : Bool) → ltb (position_or_len p xs) (length xs) ≡ list_any p xs
        → ltb (cond (not b) (1 + position_or_len p xs) 0) (length (x ∷ xs)) ≡ (b || list_any p xs)
    by true e = grind (arith, nat_tests)
    by false e = grind (arith, nat_tests)

-- the numbers below one more number
pub range_more : (n : ℕ) → range_with_len 0 (n + 1) ≡ range_with_len 0 n ++ n ∷ []
range_more n = sym (map-id (range_with_len 0 (n + 1))) ∙ map-range_with_len_more (λ k. k) 0 n n (zero-add n)
    ∙ ap (λ r. r ++ n ∷ []) (map-id (range_with_len 0 n))

-- the last element
pub get-last : {X : Type 0} (xs : List X) (x : X) → slice_get (xs ++ x ∷ []) (length xs) ≡ Some x
get-last [] x = refl
get-last (y ∷ ys) x = get-last ys x

-- what stands at a place that is set, and at any other
pub get-set : {X : Type 0} (xs : List X) (i : ℕ) (x : X) → i < length xs → slice_get (set xs i x) i ≡ Some x
get-set [] i x l = absurd (omega arith)
get-set (z ∷ xs) zero x l = refl
get-set (z ∷ xs) (suc i) x l = get-set xs i x (omega (arith, l))

pub get-other : {X : Type 0} (xs : List X) (i j : ℕ) (x : X) → (i ≡ j → ⊥) → slice_get (set xs i x) j ≡ slice_get xs j
get-other [] i j x n = refl
get-other (z ∷ xs) zero zero x n = absurd (n refl)
get-other (z ∷ xs) zero (suc j) x n = refl
get-other (z ∷ xs) (suc i) zero x n = refl
get-other (z ∷ xs) (suc i) (suc j) x n = get-other xs i j x (λ h. n (ap suc h))

-- the element at hand is the first that is left
pub drop-next : {A : Type 0} (xs : List A) (i : ℕ) (x : A) → i < length xs → x ≡ get_or xs i x
    → drop i xs ≡ x ∷ drop (i + 1) xs
drop-next xs i x l at = drop-cons xs i x l ∙ ap (λ y. y ∷ drop (suc i) xs) (sym at)
    ∙ ap (λ k. x ∷ drop k xs) (sym (add-one i))

-- what is left of numbered lines begins with those of the element at hand
pub lines-there : {A : Type 0} (f : ℕ × A → List ℕ) (xs : List A) (i j : ℕ) (x : A) → slice_get xs i ≡ Some x
    → flat_map f (enumerate_from j (drop i xs)) ≡ f (j, x) ++ flat_map f (enumerate_from (j + 1) (drop (i + 1) xs))
lines-there f xs i j x at =
    ap (λ ys. flat_map f (enumerate_from j ys)) (drop-there xs i x at)
    ∙ flat_map-cons f (j, x) (enumerate_from (j + 1) (drop (i + 1) xs))

-- a number of what stands at a place, and the sum of such numbers
pub get-map : {A : Type 0} (f : A → ℕ) (xs : List A) (n : ℕ)
    → get_or (map f xs) n 0 ≡ option_map_or f (slice_get xs n) 0
get-map f [] n = refl
get-map f (x ∷ xs) zero = refl
get-map f (x ∷ xs) (suc n) = get-map f xs n

pub sum-mapped : {A B : Type 0} (f : B → ℕ) (g : A → B) (xs : List A) → sum_by f (map g xs) ≡ sum_by (λ x. f (g x)) xs
sum-mapped f g xs = fold-map (λ a x. a + f x) g 0 xs

-- a filter that all pass, and one that none passes

pub filter-all : {X : Type 0} (test : X → Bool) (xs : List X) → All (λ x. test x ≡ true) xs → filter test xs ≡ xs
filter-all test [] h = refl
filter-all test (x ∷ xs) h =
    let first = All-head (λ y. test y ≡ true) x xs h in
    let rest = filter-all test xs (All-tail (λ y. test y ≡ true) x xs h) in
    λ i. if first i then x ∷ rest i else rest i

pub filter-none : {X : Type 0} (test : X → Bool) (xs : List X) → All (λ x. test x ≡ false) xs → filter test xs ≡ []
filter-none test [] h = refl
filter-none test (x ∷ xs) h =
    let first = All-head (λ y. test y ≡ false) x xs h in
    let rest = filter-none test xs (All-tail (λ y. test y ≡ false) x xs h) in
    λ i. if first i then x ∷ rest i else rest i

-- a piece of a list stays where it is when the list gets longer
take-longer : {A : Type 0} (k : ℕ) (xs more : List A) → k ≤ length xs → take k (xs ++ more) ≡ take k xs
take-longer zero xs more l = refl
take-longer (suc k) [] more l = absurd (omega arith)
take-longer (suc k) (x ∷ xs) more l = ap (λ ys. x ∷ ys) (take-longer k xs more (omega arith))

pub piece-longer : {A : Type 0} (from k : ℕ) (xs more : List A) → from + k ≤ length xs
    → take k (drop from (xs ++ more)) ≡ take k (drop from xs)
piece-longer zero k xs more l = take-longer k xs more (omega arith)
piece-longer (suc from) zero [] more l = absurd (omega arith)
piece-longer (suc from) (suc k) [] more l = absurd (omega arith)
piece-longer (suc from) k (x ∷ xs) more l = piece-longer from k xs more (omega arith)

-- what was added last
pub take-whole : {A : Type 0} (xs : List A) → take (length xs) xs ≡ xs
take-whole [] = refl
take-whole (x ∷ xs) = ap (λ ys. x ∷ ys) (take-whole xs)

pub piece-last : {A : Type 0} (xs more : List A) → take (length more) (drop (length xs) (xs ++ more)) ≡ more
piece-last [] more = take-whole more
piece-last (x ∷ xs) more = piece-last xs more

-- a list that was written over a whole one
pub front-whole : {A : Type 0} (n : ℕ) (new rest : List A) → n ≡ length new → take n (new ++ rest) ≡ new
front-whole n new rest is =
    ap (λ k. take k (new ++ rest)) is ∙ take-longer (length new) new rest (omega arith) ∙ take-whole new
