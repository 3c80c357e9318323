-- Tests over lists, filters and ranges.
use Rattle.std.proofs.Common.{◌≡◌, ◌∙◌, sym, ap, ap₂, subst, refl, ℕ, zero, suc, ◌+◌, ◌<◌, ◌≤◌, ◌==◌, Bool, true, false}
use Rattle.std.proofs.Common.{cond, ◌&&◌, ◌||◌, not, List, [], ◌∷◌, map, length, get_or, set, replicate, arith}
use Rattle.std.proofs.Common.{zero-add, ◌⊎◌, inl, inr, All, filter, sum_by, count_by}
use Rattle.std.specs.List.{list_any, list_all, range_with_len}
use Rattle.std.proofs.lemmas.Bool.{false≢true, eq-eqb, ne_eqb, cases_eq}
use Rattle.std.proofs.lemmas.List.{length-map, get_or-map, get_or-set_same, get_or-set_other, length-set}
use Rattle.std.proofs.lemmas.List.Filters.{sum_by-filter_both}
use Rattle.std.proofs.lemmas.List.Folds.{Any-from_list_any, list_any_at, fold-map}
use Rattle.std.proofs.lemmas.List.FromFn.{length-range_with_len, get_or-range_with_len, length-map-range_with_len}
use Rattle.std.proofs.lemmas.List.FromFn.{get_or-map-range_with_len, fill_by_all}
use Rattle.std.proofs.lemmas.List.Sums.{sum_by-cons}
use Rattle.khe_instance.proofs.DutiesLemmas.{sum_by-plus}

pub from_both : (a b : Bool) → a ≡ true → b ≡ true → (a && b) ≡ true
from_both true b e f = f
from_both false b e f = e

-- two tests that pass alike
pub same_truth : (a b : Bool) → (a ≡ true → b ≡ true) → (b ≡ true → a ≡ true) → a ≡ b
same_truth true b f g = sym (f refl)
same_truth false true f g = g refl
same_truth false false f g = refl

pub false_by : (a : Bool) → (a ≡ true → ⊥) → a ≡ false
false_by true f = absurd (f refl)
false_by false f = refl

module _ {X : Type 0} where
  pub list_any-filter : (q p : X → Bool) (xs : List X) → list_any q (filter p xs) ≡ list_any (λ x. p x && q x) xs
  list_any-filter q p [] = refl
  list_any-filter q p (x ∷ xs) = by (p x) (list_any-filter q p xs)
    where
      by : (b : Bool) → list_any q (filter p xs) ≡ list_any (λ y. p y && q y) xs
          → list_any q (cond b (x ∷ filter p xs) (filter p xs)) ≡ ((b && q x) || list_any (λ y. p y && q y) xs)
      by true rest = ap (λ r. q x || r) rest
      by false rest = rest

  pub filter_none : (p : X → Bool) (xs : List X) → list_any p xs ≡ false → filter p xs ≡ []
  filter_none p [] e = refl
  filter_none p (x ∷ xs) e = by (p x) e (filter_none p xs)
    where
      by : (b : Bool) → (b || list_any p xs) ≡ false → (list_any p xs ≡ false → filter p xs ≡ [])
          → cond b (x ∷ filter p xs) (filter p xs) ≡ []
      by true f rest = absurd (false≢true (sym f))
      by false f rest = rest f

  pub filter_every : (p : X → Bool) (xs : List X) → list_all p xs ≡ true → filter p xs ≡ xs
  filter_every p [] e = refl
  filter_every p (x ∷ xs) e = by (p x) e (filter_every p xs)
    where
      by : (b : Bool) → (b && list_all p xs) ≡ true → (list_all p xs ≡ true → filter p xs ≡ xs)
          → cond b (x ∷ filter p xs) (filter p xs) ≡ x ∷ xs
      by true f rest = ap (λ r. x ∷ r) (rest f)
      by false f rest = absurd (false≢true f)

  pub any_false : (b : Bool) (xs : List X) → b ≡ false → list_any (λ _. b) xs ≡ false
  any_false b [] e = refl
  any_false b (x ∷ xs) e = ap₂ (λ y z. y || z) e (any_false b xs e)

  pub all_true : (b : Bool) (xs : List X) → b ≡ true → list_all (λ _. b) xs ≡ true
  all_true b [] e = refl
  all_true b (x ∷ xs) e = ap₂ (λ y z. y && z) e (all_true b xs e)

  -- a part of a sum
  pub sum_by-filter_le : (f : X → ℕ) (p : X → Bool) (xs : List X) → sum_by f (filter p xs) ≤ sum_by f xs
  sum_by-filter_le f p xs = omega (arith, sum_by-filter_both p (λ x. not (p x)) (λ _. refl) f xs)

  pub sum_by-filter : (f : X → ℕ) (p : X → Bool) (xs : List X)
      → sum_by f (filter p xs) ≡ sum_by (λ x. cond (p x) (f x) 0) xs
  sum_by-filter f p [] = refl
  sum_by-filter f p (x ∷ xs) = by (p x) (sum_by-filter f p xs) ∙ sym (sum_by-cons (λ y. cond (p y) (f y) 0) x xs)
    where
      by : (b : Bool) → sum_by f (filter p xs) ≡ sum_by (λ y. cond (p y) (f y) 0) xs
          → sum_by f (cond b (x ∷ filter p xs) (filter p xs)) ≡ cond b (f x) 0 + sum_by (λ y. cond (p y) (f y) 0) xs
      by true rest = sum_by-cons f x (filter p xs) ∙ ap (λ n. f x + n) rest
      by false rest = rest ∙ sym (zero-add (sum_by (λ y. cond (p y) (f y) 0) xs))

  -- the same by the element's places
  pub count_by-places : (p : X → Bool) (xs : List X) (d : X)
      → count_by p xs ≡ count_by (λ i. p (get_or xs i d)) (range_with_len 0 (length xs))
  count_by-places p xs d =
      let places = fill_by_all (λ i. get_or xs i d) xs (length xs) d refl (λ k l. refl) in
      ap (count_by p) places ∙ fold-map (λ (n : ℕ) (x : X). n + cond (p x) 1 0) (λ i. get_or xs i d) 0
      (range_with_len 0 (length xs))

  pub All-from_map : {Y : Type 0} (P : Y → Type 0) (f : X → Y) (xs : List X) → All P (map f xs) → All (λ x. P (f x)) xs
  All-from_map P f xs all k d l = subst P (get_or-map f xs k d (f d) l)
      (all k (f d) (subst (λ n. k < n) (sym (length-map xs f)) l))

  -- an element of the list that is made from numbers
  pub read_by : (F : ℕ → X) (n e : ℕ) (xs : List X) (x : X) → xs ≡ map F (range_with_len 0 n) → e < n
      → x ≡ get_or xs e x → x ≡ F e
  read_by F n e xs x is l r = r ∙ ap (λ ys. get_or ys e x) is ∙ get_or-map-range_with_len F 0 n e e x l (omega arith)

  pub length_by : (F : ℕ → X) (n : ℕ) (xs : List X) → xs ≡ map F (range_with_len 0 n) → length xs ≡ n
  length_by F n xs is = ap length is ∙ length-map-range_with_len F 0 n

  pub replicate_by : (n : ℕ) (x : X) → replicate n x ≡ map (λ _. x) (range_with_len 0 n)
  replicate_by n x = by 0 n
    where
      by : (a n : ℕ) → replicate n x ≡ map (λ _. x) (range_with_len a n)
      by a zero = refl
      by a (suc n) = ap (λ r. x ∷ r) (by (a + 1) n)

  -- a write of one element, where the others stay
  pub set_by : (F G : ℕ → X) (n e : ℕ) (x : X) → e < n → G e ≡ x → ((k : ℕ) → (k ≡ e → ⊥) → G k ≡ F k)
      → set (map F (range_with_len 0 n)) e x ≡ map G (range_with_len 0 n)
  set_by F G n e x l here others =
      let xs = map F (range_with_len 0 n) in
      let long : length xs ≡ n = length-map-range_with_len F 0 n in
      fill_by_all G (set xs e x) n x (length-set xs e x ∙ long) (λ k h. by k h (cases_eq k e))
    where
      by : (k : ℕ) → k < n → (k ≡ e) ⊎ (k ≡ e → ⊥) → get_or (set (map F (range_with_len 0 n)) e x) k x ≡ G k
      by k h (inl same) =
          let in_range : e < length (map F (range_with_len 0 n)) =
          subst (λ m. e < m) (sym (length-map-range_with_len F 0 n)) l in
          ap (λ j. get_or (set (map F (range_with_len 0 n)) e x) j x) same
          ∙ get_or-set_same (map F (range_with_len 0 n)) e x x in_range ∙ sym here ∙ ap G (sym same)
      by k h (inr other) =
          get_or-set_other (map F (range_with_len 0 n)) e k x x other
          ∙ get_or-map-range_with_len F 0 n k k x h (omega arith) ∙ sym (others k other)

-- a number of a range passes
pub any_in_range : (p : ℕ → Bool) (n k : ℕ) → k < n → p k ≡ true → list_any p (range_with_len 0 n) ≡ true
any_in_range p n k l e =
    list_any_at p (range_with_len 0 n) k 0 (subst (λ m. k < m) (sym (length-range_with_len 0 n)) l)
    (ap p (get_or-range_with_len 0 n k 0 l ∙ (let z : 0 + k ≡ k = omega arith in z)) ∙ e)

-- a number of a range that passes
pub record InRange (p : ℕ → Bool) (n : ℕ) : Type 0 where
  pub number : ℕ
  pub below : number < n
  pub passes : p number ≡ true

pub from_any_range : (p : ℕ → Bool) (n : ℕ) → list_any p (range_with_len 0 n) ≡ true → InRange p n
from_any_range p n e =
    let found = Any-from_list_any p (range_with_len 0 n) e in
    let below : found.0 < n = subst (λ m. found.0 < m) (length-range_with_len 0 n) found.2 in
    record {
      number = found.1;
      below = subst (λ m. m < n)
          (sym (get_or-range_with_len 0 n found.0 found.1 below ∙ (let z : 0 + found.0 ≡ found.0 = omega arith in z))
          ∙ found.3) below;
      passes = found.4;
    }

-- counts of a range by tests that agree there
pub count_by-agree : (p q : ℕ → Bool) (n : ℕ) → ((k : ℕ) → k < n → p k ≡ q k)
    → count_by p (range_with_len 0 n) ≡ count_by q (range_with_len 0 n)
count_by-agree p q n h = by 0 n (λ k low high. h k (omega arith))
  where
    by : (a m : ℕ) → ((k : ℕ) → a ≤ k → k < a + m → p k ≡ q k)
        → count_by p (range_with_len a m) ≡ count_by q (range_with_len a m)
    by a zero g = refl
    by a (suc m) g =
        sum_by-cons (λ x. cond (p x) 1 0) a (range_with_len (a + 1) m)
        ∙ ap₂ (λ x y. cond x 1 0 + y) (g a (omega arith) (omega arith))
        (by (a + 1) m (λ k low high. g k (omega arith) (omega arith)))
        ∙ sym (sum_by-cons (λ x. cond (q x) 1 0) a (range_with_len (a + 1) m))

-- at most one number of a range is this one
pub count_one : (k n : ℕ) → count_by (λ j. j == k) (range_with_len 0 n) ≤ 1
count_one k n = by 0 n
  where
    none : (a m : ℕ) → k < a → count_by (λ j. j == k) (range_with_len a m) ≡ 0
    none a zero l = refl
    none a (suc m) l =
        sum_by-cons (λ j. cond (j == k) 1 0) a (range_with_len (a + 1) m)
        ∙ ap₂ (λ x y. cond x 1 0 + y) (ne_eqb a k (λ e. absurd (omega (arith, e)))) (none (a + 1) m (omega arith))

    by : (a m : ℕ) → count_by (λ j. j == k) (range_with_len a m) ≤ 1
    by a zero = omega arith
    by a (suc m) = subst (λ x. x ≤ 1) (sym (sum_by-cons (λ j. cond (j == k) 1 0) a (range_with_len (a + 1) m)))
        (step (cases_eq a k) (by (a + 1) m))
      where
        step : (a ≡ k) ⊎ (a ≡ k → ⊥) → count_by (λ j. j == k) (range_with_len (a + 1) m) ≤ 1
            → cond (a == k) 1 0 + count_by (λ j. j == k) (range_with_len (a + 1) m) ≤ 1
        step (inl e) rest =
            let z : count_by (λ j. j == k) (range_with_len (a + 1) m) ≡ 0 = none (a + 1) m (omega (arith, e)) in
            let y : cond {A = ℕ} (a == k) 1 0 ≡ 1 = ap (λ b. cond {A = ℕ} b 1 0) (eq-eqb a k e) in
            omega arith
        step (inr ne) rest =
            let y : cond {A = ℕ} (a == k) 1 0 ≡ 0 = ap (λ b. cond {A = ℕ} b 1 0) (ne_eqb a k ne) in
            omega arith

-- a sum over a range that is 0 but at one number
module _ (h : ℕ → ℕ) (x : ℕ) (others : (e : ℕ) → (e ≡ x → ⊥) → h e ≡ 0) where
  none : (a m : ℕ) → x < a → sum_by h (range_with_len a m) ≡ 0
  none a zero l = refl
  none a (suc m) l =
      sum_by-cons h a (range_with_len (a + 1) m)
      ∙ ap₂ (λ y z. y + z) (others a (λ e. absurd (omega (arith, e)))) (none (a + 1) m (omega arith))

  from_on : (a m : ℕ) → a ≤ x → (a + m ≤ x → h x ≡ 0) → sum_by h (range_with_len a m) ≡ h x
  from_on a zero low high = sym (high (omega arith))
  from_on a (suc m) low high = at (cases_eq a x) (λ l. from_on (a + 1) m l (λ le. high (omega arith)))
    where
      at : (a ≡ x) ⊎ (a ≡ x → ⊥) → (a + 1 ≤ x → sum_by h (range_with_len (a + 1) m) ≡ h x)
          → sum_by h (range_with_len a (suc m)) ≡ h x
      at (inl e) rest =
          let z : sum_by h (range_with_len (a + 1) m) ≡ 0 = none (a + 1) m (omega (arith, e)) in
          let same : h a ≡ h x = ap h e in
          let split = sum_by-cons h a (range_with_len (a + 1) m) in
          omega arith
      at (inr ne) rest =
          let z : h a ≡ 0 = others a ne in
          let later : sum_by h (range_with_len (a + 1) m) ≡ h x = rest (omega arith) in
          let split = sum_by-cons h a (range_with_len (a + 1) m) in
          omega arith

  pub sum_one : (n : ℕ) → (n ≤ x → h x ≡ 0) → sum_by h (range_with_len 0 n) ≡ h x
  sum_one n beyond = from_on 0 n (omega arith) (λ le. beyond (omega arith))

-- sums over a range by what differs at one number alone
pub sum_changed : (f g : ℕ → ℕ) (x d n : ℕ) → x < n → g x ≡ f x + d → ((k : ℕ) → (k ≡ x → ⊥) → g k ≡ f k)
    → sum_by g (range_with_len 0 n) ≡ sum_by f (range_with_len 0 n) + d
sum_changed f g x d n l here others =
    (λ i. sum_by (λ k. point k i) (range_with_len 0 n))
    ∙ sum_by-plus f (λ k. cond (k == x) d 0) (range_with_len 0 n)
    ∙ ap (λ y. sum_by f (range_with_len 0 n) + y) (sum_one (λ k. cond (k == x) d 0) x
    (λ k ne. ap (λ b. cond b d 0) (ne_eqb k x ne)) n (λ le. absurd (omega arith))
    ∙ ap (λ b. cond b d 0) (eq-eqb x x refl))
  where
    point : (k : ℕ) → g k ≡ f k + cond (k == x) d 0
    point k = by (cases_eq k x)
      where
        by : (k ≡ x) ⊎ (k ≡ x → ⊥) → g k ≡ f k + cond (k == x) d 0
        by (inl e) = ap g e ∙ here ∙ ap₂ (λ y b. y + cond b d 0) (sym (ap f e)) (sym (eq-eqb k x e))
        by (inr ne) =
            let z : f k ≡ f k + 0 = omega arith in
            others k ne ∙ z ∙ ap (λ b. f k + cond b d 0) (sym (ne_eqb k x ne))
