-- The demands that compete exceed their supplies by the greatest excess: sets with the greatest excess
-- are closed under what they have in common.
use Rattle.std.proofs.Common.{ℕ, zero, suc, ◌+◌, ◌<◌, ◌≤◌, ◌≡◌, Bool, true, false, not, ◌&&◌, List, [], ◌∷◌}
use Rattle.std.proofs.Common.{map, length, refl, sym, ap, ◌∙◌, arith, inl, inr, ◌⊎◌}
use Rattle.std.specs.Prelude.{◌||◌}
use Rattle.std.specs.List.{list_all}
use Rattle.std.proofs.lemmas.Bool.{and_from, and_parts, cases_lt, eq-eqb, eqb-true, or_cases, or_left, or_right}
use Rattle.khe_base.specs.IdSet.{has_member}
use Rattle.demand_matching.specs.Counts.{any_below, count_below, sum_below}
use Rattle.demand_matching.specs.Domains.{Domains, is_present, may_have}
use Rattle.demand_matching.specs.Excess.{size_of, neighbours_of, is_neighbour}
use Rattle.demand_matching.proofs.Counting.{any_at, any_from, count_same, count_split, count_subset}
use Rattle.hall_report.specs.Shortages.{all_sets, competes, excess_of, greatest, greatest_excess, has_greatest}
use Rattle.hall_report.proofs.AllSets.{all_at, greatest_ge, has_passing, is_listed}
use Rattle.hall_report.proofs.ShortageLaws.{listed, near_listed, near_same, size_listed, size_same}

-- counts of two tests, of what passes one of them and of what passes both
count_two : (n : ℕ) (a b : ℕ → Bool)
    → count_below n (λ k. a k || b k) + count_below n (λ k. a k && b k) ≡ count_below n a + count_below n b
count_two n a b =
    let one = count_split n (λ k. a k || b k) a in
    let two = count_split n b a in
    let x : count_below n (λ k. (a k || b k) && a k) ≡ count_below n a =
    count_same n (λ k. (a k || b k) && a k) a (λ k l. first (a k) (b k)) in
    let y : count_below n (λ k. (a k || b k) && not (a k)) ≡ count_below n (λ k. b k && not (a k)) =
    count_same n (λ k. (a k || b k) && not (a k)) (λ k. b k && not (a k)) (λ k l. second (a k) (b k)) in
    let z : count_below n (λ k. b k && a k) ≡ count_below n (λ k. a k && b k) =
    count_same n (λ k. b k && a k) (λ k. a k && b k) (λ k l. turned (a k) (b k)) in
    omega (arith, one, two, x, y, z)
  where
    first : (x y : Bool) → (x || y) && x ≡ x
    first true y = refl
    first false true = refl
    first false false = refl

    second : (x y : Bool) → (x || y) && not x ≡ y && not x
    second true true = refl
    second true false = refl
    second false y = refl

    turned : (x y : Bool) → y && x ≡ x && y
    turned true true = refl
    turned true false = refl
    turned false true = refl
    turned false false = refl

sum_four : (n : ℕ) (f g h i : ℕ → ℕ) → ((k : ℕ) → f k + g k ≤ h k + i k)
    → sum_below n f + sum_below n g ≤ sum_below n h + sum_below n i
unfolding sum_below
sum_four zero f g h i each = omega arith
sum_four (suc n) f g h i each = omega (arith, each n, sum_four n f g h i each)

sum_none : (n : ℕ) (f : ℕ → ℕ) → ((k : ℕ) → f k ≡ 0) → sum_below n f ≡ 0
unfolding sum_below
sum_none zero f each = refl
sum_none (suc n) f each = omega (arith, each n, sum_none n f each)

count_none : (n : ℕ) (p : ℕ → Bool) → ((k : ℕ) → p k ≡ false) → count_below n p ≡ 0
unfolding count_below
count_none zero p each = refl
count_none (suc n) p each = rw (each n) (omega (arith, count_none n p each))

any_none : (n : ℕ) (p : ℕ → Bool) → ((k : ℕ) → p k ≡ false) → any_below n p ≡ false
unfolding any_below
any_none zero p each = refl
any_none (suc n) p each = rw (each n) (any_none n p each)

-- a greatest value that is not 0 is that of one
greatest_at : {A : Type 0} (value : A → ℕ) (xs : List A) → 0 < greatest (map value xs)
    → (x : A) × (value x ≡ greatest (map value xs))
greatest_at value [] l = absurd (omega (arith, l))
greatest_at {A = A} value (x ∷ xs) l =
    by_order (cases_lt (value x) (greatest (map value xs))) (greatest_at value xs)
  where
    by_order : (value x < greatest (map value xs)) ⊎ (greatest (map value xs) ≤ value x)
        → (0 < greatest (map value xs) → (y : A) × (value y ≡ greatest (map value xs)))
        → (y : A) × (value y ≡ greatest (map value (x ∷ xs)))
    by_order (inl less) rest = let it = rest (omega (arith, less)) in
        (it.0, (let e = it.1 in omega (arith, e, less)))
    by_order (inr more) rest = (x, omega (arith, more))

module _ (w : Domains) where
  -- the set has the greatest excess
  abbrev Exceeds : (ℕ → Bool) → Type 0
  Exceeds set = size_of w set ≡ neighbours_of w set + greatest_excess w

  no_more : (set : ℕ → Bool) → size_of w set ≤ neighbours_of w set + greatest_excess w
  unfolding greatest_excess
  no_more set =
      let size = size_listed w set in
      let near = near_listed w set in
      let most : excess_of w (listed w set) ≤ greatest_excess w =
      greatest_ge (excess_of w) (all_sets (length w.demands)) (listed w set) (is_listed (length w.demands) set) in
      omega (arith, size, near, most)

  -- the supplies of two sets
  module _ (a b : ℕ → Bool) where
    size_two : size_of w (λ k. a k || b k) + size_of w (λ k. a k && b k) ≡ size_of w a + size_of w b
    size_two =
        let n : ℕ = length w.demands in
        let two = count_two n (λ k. is_present w k && a k) (λ k. is_present w k && b k) in
        let x = count_same n (λ k. is_present w k && (a k || b k))
        (λ k. (is_present w k && a k) || (is_present w k && b k))
        (λ k l. one_of (is_present w k) (a k) (b k)) in
        let y = count_same n (λ k. is_present w k && (a k && b k))
        (λ k. (is_present w k && a k) && (is_present w k && b k))
        (λ k l. both_of (is_present w k) (a k) (b k)) in
        omega (arith, two, x, y)
      where
        one_of : (p x y : Bool) → p && (x || y) ≡ (p && x) || (p && y)
        one_of true x y = refl
        one_of false x y = refl

        both_of : (p x y : Bool) → p && (x && y) ≡ (p && x) && (p && y)
        both_of true x y = refl
        both_of false x y = refl

    near_one : (r t : ℕ) → is_neighbour w (λ k. a k || b k) r t ≡ true
        → (is_neighbour w a r t || is_neighbour w b r t) ≡ true
    near_one r t h =
        let n : ℕ = length w.demands in
        let at = any_at n (λ k. (a k || b k) && may_have w k r t) h in
        let x = and_parts (a at.0 || b at.0) (may_have w at.0 r t) at.2 in
        of at.0 at.1 x.1 (or_cases (a at.0) (b at.0) x.0)
      where
        of : (k : ℕ) → k < length w.demands → may_have w k r t ≡ true → (a k ≡ true) ⊎ (b k ≡ true)
            → (is_neighbour w a r t || is_neighbour w b r t) ≡ true
        of k l m (inl e) = or_left (is_neighbour w a r t) (is_neighbour w b r t)
            (any_from (length w.demands) (λ j. a j && may_have w j r t) k l (and_from (a k) (may_have w k r t) e m))
        of k l m (inr e) = or_right (is_neighbour w a r t) (is_neighbour w b r t)
            (any_from (length w.demands) (λ j. b j && may_have w j r t) k l (and_from (b k) (may_have w k r t) e m))

    near_both : (r t : ℕ) → is_neighbour w (λ k. a k && b k) r t ≡ true
        → (is_neighbour w a r t && is_neighbour w b r t) ≡ true
    near_both r t h =
        let n : ℕ = length w.demands in
        let at = any_at n (λ k. (a k && b k) && may_have w k r t) h in
        let x = and_parts (a at.0 && b at.0) (may_have w at.0 r t) at.2 in
        let y = and_parts (a at.0) (b at.0) x.0 in
        and_from (is_neighbour w a r t) (is_neighbour w b r t)
        (any_from n (λ j. a j && may_have w j r t) at.0 at.1 (and_from (a at.0) (may_have w at.0 r t) y.0 x.1))
        (any_from n (λ j. b j && may_have w j r t) at.0 at.1 (and_from (b at.0) (may_have w at.0 r t) y.1 x.1))

    near_two : neighbours_of w (λ k. a k || b k) + neighbours_of w (λ k. a k && b k)
        ≤ neighbours_of w a + neighbours_of w b
    near_two =
        sum_four w.width (λ r. count_below w.last (λ t. is_neighbour w (λ k. a k || b k) r t))
        (λ r. count_below w.last (λ t. is_neighbour w (λ k. a k && b k) r t))
        (λ r. count_below w.last (λ t. is_neighbour w a r t)) (λ r. count_below w.last (λ t. is_neighbour w b r t))
        (λ r.
        let two = count_two w.last (λ t. is_neighbour w a r t) (λ t. is_neighbour w b r t) in
        let x = count_subset w.last (λ t. is_neighbour w (λ k. a k || b k) r t)
        (λ t. is_neighbour w a r t || is_neighbour w b r t) (λ t l h. near_one r t h) in
        let y = count_subset w.last (λ t. is_neighbour w (λ k. a k && b k) r t)
        (λ t. is_neighbour w a r t && is_neighbour w b r t) (λ t l h. near_both r t h) in
        omega (arith, two, x, y))

    -- what two sets with the greatest excess have in common has it
    pub common : Exceeds a → Exceeds b → Exceeds (λ k. a k && b k)
    common x y =
        let size = size_two in
        let near = near_two in
        let most = no_more (λ k. a k || b k) in
        let less = no_more (λ k. a k && b k) in
        omega (arith, x, y, size, near, most, less)

  -- a set has it
  pub none_near : neighbours_of w (λ k. false) ≡ 0
  none_near = sum_none w.width (λ r. count_below w.last (λ t. is_neighbour w (λ k. false) r t))
      (λ r. count_none w.last (λ t. is_neighbour w (λ k. false) r t)
      (λ t. any_none (length w.demands) (λ k. false && may_have w k r t) (λ k. refl)))

  one_exceeds : (set : ℕ → Bool) × Exceeds set
  unfolding greatest_excess
  one_exceeds = by_order (cases_lt 0 (greatest_excess w))
    where
      by_order : (0 < greatest_excess w) ⊎ (greatest_excess w ≤ 0) → (set : ℕ → Bool) × Exceeds set
      by_order (inl some) =
          let it = greatest_at (excess_of w) (all_sets (length w.demands)) some in
          (has_member it.0, (let e = it.1 in omega (arith, e, some)))
      by_order (inr none) = (
        (λ k. false),
        (let z = none_near in let b = no_more (λ k. false) in
            omega (arith, z, b, none)),
      )

  -- what a set with the greatest excess has in common with all of a list that have it
  abbrev in_each : List (List Bool) → ℕ → Bool
  in_each xs k = list_all (λ x. not (has_greatest w x) || has_member x k) xs

  common_all : (xs : List (List Bool)) (set : ℕ → Bool) → Exceeds set → Exceeds (λ k. set k && in_each xs k)
  common_all [] set e =
      let size = size_same w (λ k. set k && true) set (λ k l. and_true (set k)) in
      let near = near_same w (λ k. set k && true) set (λ k l. and_true (set k)) in
      omega (arith, e, size, near)
    where
      and_true : (b : Bool) → b && true ≡ b
      and_true true = refl
      and_true false = refl
  common_all (x ∷ xs) set e = by_case (has_greatest w x) refl (common_all xs)
    where
      by_case : (b : Bool) → has_greatest w x ≡ b
          → ((c : ℕ → Bool) → Exceeds c → Exceeds (λ k. c k && in_each xs k))
          → Exceeds (λ k. set k && in_each (x ∷ xs) k)
      by_case false h later =
          let same : (k : ℕ) → k < length w.demands → (set k && in_each (x ∷ xs) k) ≡ (set k && in_each xs k) =
          λ k l. ap (λ b. set k && ((not b || has_member x k) && in_each xs k)) h in
          let size = size_same w (λ k. set k && in_each (x ∷ xs) k) (λ k. set k && in_each xs k) same in
          let near = near_same w (λ k. set k && in_each (x ∷ xs) k) (λ k. set k && in_each xs k) same in
          let rest = later set e in
          omega (arith, size, near, rest)
      by_case true h later =
          let own : Exceeds (has_member x) =
          eqb-true (size_of w (has_member x)) (neighbours_of w (has_member x) + greatest_excess w) h in
          let rest = later (λ k. set k && has_member x k) (common set (has_member x) e own) in
          let same : (k : ℕ) → k < length w.demands
          → (set k && in_each (x ∷ xs) k) ≡ ((set k && has_member x k) && in_each xs k) =
          λ k l. ap (λ b. set k && ((not b || has_member x k) && in_each xs k)) h
          ∙ moved (set k) (has_member x k) (in_each xs k) in
          let size = size_same w (λ k. set k && in_each (x ∷ xs) k) (λ k. (set k && has_member x k) && in_each xs k)
          same in
          let near = near_same w (λ k. set k && in_each (x ∷ xs) k) (λ k. (set k && has_member x k) && in_each xs k)
          same in
          omega (arith, size, near, rest)
        where
          moved : (a b c : Bool) → a && (b && c) ≡ (a && b) && c
          moved true b c = refl
          moved false b c = refl

  -- a demand that competes is in each set that has it
  competes_in : (set : ℕ → Bool) → Exceeds set → (k : ℕ) → k < length w.demands → competes w k ≡ true → set k ≡ true
  unfolding competes
  competes_in set e k l h =
      let size = size_listed w set in
      let near = near_listed w set in
      let great : has_greatest w (listed w set) ≡ true =
      eq-eqb (size_of w (has_member (listed w set))) (neighbours_of w (has_member (listed w set)) + greatest_excess w)
      (omega (arith, e, size, near)) in
      let own = all_at (λ x. not (has_greatest w x) || has_member x k) (all_sets (length w.demands)) (listed w set) h
      (is_listed (length w.demands) set) in
      sym (has_passing (length w.demands) set k l)
      ∙ sym (ap (λ b. not b || has_member (listed w set) k) great) ∙ own

  pub competing_exceed : size_of w (competes w) ≡ neighbours_of w (competes w) + greatest_excess w
  unfolding competes
  competing_exceed =
      let it = one_exceeds in
      let all : Exceeds (λ k. it.0 k && competes w k) = common_all (all_sets (length w.demands)) it.0 it.1 in
      let same : (k : ℕ) → k < length w.demands → (it.0 k && competes w k) ≡ competes w k =
      λ k l. kept (it.0 k) (competes w k) (competes_in it.0 it.1 k l) in
      let size = size_same w (λ k. it.0 k && competes w k) (competes w) same in
      let near = near_same w (λ k. it.0 k && competes w k) (competes w) same in
      omega (arith, all, size, near)
    where
      kept : (a b : Bool) → (b ≡ true → a ≡ true) → (a && b) ≡ b
      kept true b h = refl
      kept false true h = h refl
      kept false false h = refl
