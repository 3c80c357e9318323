-- All sets of the numbers below a size: each test of numbers is one of them.
use Rattle.std.proofs.Common.{ℕ, zero, suc, ◌+◌, ◌<◌, ◌≤◌, ◌≡◌, Bool, true, false, List, [], ◌∷◌, ◌++◌, map}
use Rattle.std.proofs.Common.{length, refl, sym, ap, ◌∙◌, arith}
use Rattle.std.specs.List.{Contains, list_all}
use Rattle.std.proofs.lemmas.Bool.{and_parts, and_from}
use Rattle.std.proofs.lemmas.List.{length-map, get_or-map}
use Rattle.std.proofs.lemmas.List.Elements.{Contains-append_left, Contains-append_right}
use Rattle.khe_base.specs.IdSet.{has_member}
use Rattle.hall_report.specs.Shortages.{all_sets, greatest}

-- the numbers below a size that pass a test
abbrev pub passing : ℕ → (ℕ → Bool) → List Bool
passing zero test = []
passing (suc n) test = test 0 ∷ passing n (λ k. test (suc k))

pub has_passing : (n : ℕ) (test : ℕ → Bool) (k : ℕ) → k < n → has_member (passing n test) k ≡ test k
has_passing zero test k l = absurd (omega (arith, l))
has_passing (suc n) test zero l = refl
has_passing (suc n) test (suc k) l = has_passing n (λ j. test (suc j)) k (omega (arith, l))

in_map : {A B : Type 0} (f : A → B) (xs : List A) (x : A) → Contains xs x → Contains (map f xs) (f x)
in_map f xs x h = (h.0, omega (arith, h.1, length-map xs f), get_or-map f xs h.0 x (f x) h.1 ∙ ap f h.2)

begun : (n : ℕ) (b : Bool) (set : List Bool) → Contains (all_sets n) set
    → Contains (map (λ set. false ∷ set) (all_sets n) ++ map (λ set. true ∷ set) (all_sets n)) (b ∷ set)
begun n false set h = Contains-append_left (map (λ set. false ∷ set) (all_sets n))
    (map (λ set. true ∷ set) (all_sets n)) (false ∷ set) (in_map (λ set. false ∷ set) (all_sets n) set h)
begun n true set h = Contains-append_right (map (λ set. false ∷ set) (all_sets n))
    (map (λ set. true ∷ set) (all_sets n)) (true ∷ set) (in_map (λ set. true ∷ set) (all_sets n) set h)

pub is_listed : (n : ℕ) (test : ℕ → Bool) → Contains (all_sets n) (passing n test)
unfolding all_sets
is_listed zero test = (0, omega arith, refl)
is_listed (suc n) test = begun n (test 0) (passing n (λ k. test (suc k))) (is_listed n (λ k. test (suc k)))

-- a greatest value is reached by none above it
pub greatest_ge : {A : Type 0} (value : A → ℕ) (xs : List A) (x : A) → Contains xs x → value x ≤ greatest (map value xs)
greatest_ge value [] x (k, l, e) = absurd (omega (arith, l))
greatest_ge value (y ∷ ys) x (zero, l, e) = let same : value y ≡ value x = ap value e in omega (arith, same)
greatest_ge value (y ∷ ys) x (suc k, l, e) = let below : k < length ys = omega (arith, l) in let rest =
    greatest_ge value ys x (k, below, e) in omega (arith, rest)

pub greatest_le : {A : Type 0} (value : A → ℕ) (xs : List A) (bound : ℕ) → ((x : A) → value x ≤ bound)
    → greatest (map value xs) ≤ bound
greatest_le value [] bound h = omega arith
greatest_le value (y ∷ ys) bound h = omega (arith, h y, greatest_le value ys bound h)

-- a test that all of a list pass
pub all_at : {A : Type 0} (test : A → Bool) (xs : List A) (x : A) → list_all test xs ≡ true → Contains xs x
    → test x ≡ true
all_at test [] x h (k, l, e) = absurd (omega (arith, l))
all_at test (y ∷ ys) x h (zero, l, e) = ap test (sym e) ∙ (and_parts (test y) (list_all test ys) h).0
all_at test (y ∷ ys) x h (suc k, l, e) = let below : k < length ys = omega (arith, l) in
    all_at test ys x (and_parts (test y) (list_all test ys) h).1 (k, below, e)

pub all_from : {A : Type 0} (test : A → Bool) (xs : List A) → ((x : A) → test x ≡ true) → list_all test xs ≡ true
all_from test [] h = refl
all_from test (y ∷ ys) h = and_from (test y) (list_all test ys) (h y) (all_from test ys h)
