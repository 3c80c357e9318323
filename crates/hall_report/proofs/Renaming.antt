-- The same demands under other numbers have the same deficit and the same Hall set.
use Rattle.std.proofs.Common.{List, [], ◌∷◌, slice_index_or, ℕ, zero, suc, ◌+◌, ◌<◌, ◌≤◌, ◌≡◌, Bool, true, ◌&&◌, Option}
use Rattle.std.proofs.Common.{None, Some, length, refl, sym, ap, ◌∙◌, arith}
use Rattle.std.proofs.Math.Logic.{∥∥₁_map}
use Rattle.std.specs.Prelude.{is_some}
use Rattle.std.proofs.lemmas.Bool.{and_parts, and_from, false≢true}
use Rattle.demand_matching.specs.declared.domains.Domain.{Domain}
use Rattle.demand_matching.specs.Counts.{count_below, sum_below}
use Rattle.demand_matching.specs.Domains.{Domains, is_present, may_have, domain_of, admits_where_present}
use Rattle.demand_matching.specs.Excess.{size_of, neighbours_of, is_neighbour, HasGreatestExcess, IsDeficit, IsHallSet}
use Rattle.demand_matching.proofs.Counting.{count_subset, count_partners, any_at, any_from}

-- each present demand of either has a number in the other, and may have the same supplies there
pub record IsRenamed (v w : Domains) (f g : ℕ → ℕ) : Type 0 where
  pub last : v.last ≡ w.last
  pub width : v.width ≡ w.width
  pub there : (k : ℕ) → is_present v k ≡ true → is_present w (f k) ≡ true
  pub back : (k : ℕ) → is_present v k ≡ true → g (f k) ≡ k
  pub there_back : (j : ℕ) → is_present w j ≡ true → is_present v (g j) ≡ true
  pub forth : (j : ℕ) → is_present w j ≡ true → f (g j) ≡ j
  pub may : (k r t : ℕ) → is_present v k ≡ true → r < v.width → t < v.last → may_have v k r t ≡ may_have w (f k) r t

pub turned : (v w : Domains) (f g : ℕ → ℕ) → IsRenamed v w f g → IsRenamed w v g f
turned v w f g is = record {
  last = sym is.last;
  width = sym is.width;
  there = is.there_back;
  back = is.forth;
  there_back = is.there;
  forth = is.back;
  may = λ j r t here x y.
      sym (is.may (g j) r t (is.there_back j here) (omega (arith, is.width)) (omega (arith, is.last))
      ∙ ap (λ n. may_have w n r t) (is.forth j here));
}

pub present_below : (w : Domains) (k : ℕ) → is_present w k ≡ true → k < length w.demands
present_below w k h = some_below w.demands k h
  where
    some_below : {A : Type 0} (xs : List (Option A)) (k : ℕ) → is_some (slice_index_or xs k None) ≡ true → k < length xs
    some_below [] k h = absurd (false≢true h)
    some_below (x ∷ xs) zero h = omega arith
    some_below (x ∷ xs) (suc k) h = let r : k < length xs = some_below xs k h in omega arith

has_present : (times resources : List (List Bool)) (o : Option Domain) (r t : ℕ)
    → admits_where_present times resources o r t ≡ true → is_some o ≡ true
has_present times resources None r t h = absurd (false≢true h)
has_present times resources (Some d) r t h = refl

pub may_there : (w : Domains) (k r t : ℕ) → may_have w k r t ≡ true → is_present w k ≡ true
may_there w k r t h = has_present w.times w.resources (domain_of w k) r t h

-- a set of demands by their other numbers
size_le : (v w : Domains) (f g : ℕ → ℕ) → IsRenamed v w f g → (set : ℕ → Bool)
    → size_of v (λ k. set (f k)) ≤ size_of w set
size_le v w f g is set =
    count_partners (length v.demands) (length w.demands) (λ k. is_present v k && set (f k))
    (λ j. is_present w j && set j) (λ k j. (is_present v k ≡ true) × (f k ≡ j))
    (λ k l h.
    let a = and_parts (is_present v k) (set (f k)) h in
    let p : is_present w (f k) ≡ true = is.there k a.0 in
    (f k, present_below w (f k) p, and_from (is_present w (f k)) (set (f k)) p a.1, (a.0, refl)))
    (λ j k s x y. sym (is.back j x.0) ∙ ap g (x.1 ∙ sym y.1) ∙ is.back k y.0)

pub size_renamed : (v w : Domains) (f g : ℕ → ℕ) → IsRenamed v w f g → (set : ℕ → Bool)
    → size_of v (λ k. set (f k)) ≡ size_of w set
size_renamed v w f g is set =
    let one : size_of v (λ k. set (f k)) ≤ size_of w set = size_le v w f g is set in
    let two : size_of w (λ j. set (f (g j))) ≤ size_of v (λ k. set (f k)) =
    size_le w v g f (turned v w f g is) (λ k. set (f k)) in
    let three : size_of w set ≤ size_of w (λ j. set (f (g j))) =
    count_subset (length w.demands) (λ j. is_present w j && set j) (λ j. is_present w j && set (f (g j)))
    (λ j l h. let a = and_parts (is_present w j) (set j) h in
    and_from (is_present w j) (set (f (g j))) a.0 (ap set (is.forth j a.0) ∙ a.1)) in
    omega arith

sum_le : (n : ℕ) (a b : ℕ → ℕ) → ((k : ℕ) → k < n → a k ≤ b k) → sum_below n a ≤ sum_below n b
unfolding sum_below
sum_le zero a b h = omega arith
sum_le (suc n) a b h =
    let top : a n ≤ b n = h n (omega arith) in
    let rest : sum_below n a ≤ sum_below n b = sum_le n a b (λ k l. h k (omega arith)) in
    omega arith

neighbour_le : (v w : Domains) (f g : ℕ → ℕ) → IsRenamed v w f g → (set : ℕ → Bool) (r t : ℕ) → r < v.width → t < v.last
    → is_neighbour v (λ k. set (f k)) r t ≡ true → is_neighbour w set r t ≡ true
neighbour_le v w f g is set r t x y h =
    let it = any_at (length v.demands) (λ k. set (f k) && may_have v k r t) h in
    let k : ℕ = it.0 in
    let a = and_parts (set (f k)) (may_have v k r t) it.2 in
    let p : is_present v k ≡ true = may_there v k r t a.1 in
    let m : may_have w (f k) r t ≡ true = sym (is.may k r t p x y) ∙ a.1 in
    any_from (length w.demands) (λ j. set j && may_have w j r t) (f k) (present_below w (f k) (is.there k p))
    (and_from (set (f k)) (may_have w (f k) r t) a.0 m)

neighbours_le : (v w : Domains) (f g : ℕ → ℕ) → IsRenamed v w f g → (set : ℕ → Bool)
    → neighbours_of v (λ k. set (f k)) ≤ neighbours_of w set
neighbours_le v w f g is set =
    let low : sum_below v.width (λ r. count_below v.last (λ t. is_neighbour v (λ k. set (f k)) r t)) ≤ sum_below v.width
    (λ r. count_below v.last (λ t. is_neighbour w set r t)) =
    sum_le v.width (λ r. count_below v.last (λ t. is_neighbour v (λ k. set (f k)) r t))
    (λ r. count_below v.last (λ t. is_neighbour w set r t))
    (λ r x. count_subset v.last (λ t. is_neighbour v (λ k. set (f k)) r t) (λ t. is_neighbour w set r t)
    (λ t y h. neighbour_le v w f g is set r t x y h)) in
    let same : sum_below v.width (λ r. count_below v.last (λ t. is_neighbour w set r t)) ≡ neighbours_of w set =
    ap (λ n. sum_below n (λ r. count_below v.last (λ t. is_neighbour w set r t))) is.width
    ∙ ap (λ n. sum_below w.width (λ r. count_below n (λ t. is_neighbour w set r t))) is.last in
    omega arith

-- a set loses nothing by names that lead back
neighbours_back : (w v : Domains) (f g : ℕ → ℕ) → IsRenamed v w f g → (set : ℕ → Bool)
    → neighbours_of w set ≤ neighbours_of w (λ j. set (f (g j)))
neighbours_back w v f g is set =
    sum_le w.width (λ r. count_below w.last (λ t. is_neighbour w set r t))
    (λ r. count_below w.last (λ t. is_neighbour w (λ j. set (f (g j))) r t))
    (λ r x. count_subset w.last (λ t. is_neighbour w set r t) (λ t. is_neighbour w (λ j. set (f (g j))) r t)
    (λ t y h.
    let it = any_at (length w.demands) (λ j. set j && may_have w j r t) h in
    let j : ℕ = it.0 in
    let a = and_parts (set j) (may_have w j r t) it.2 in
    let p : is_present w j ≡ true = may_there w j r t a.1 in
    any_from (length w.demands) (λ i. set (f (g i)) && may_have w i r t) j it.1
    (and_from (set (f (g j))) (may_have w j r t) (ap set (is.forth j p) ∙ a.0) a.1)))

pub neighbours_renamed : (v w : Domains) (f g : ℕ → ℕ) → IsRenamed v w f g → (set : ℕ → Bool)
    → neighbours_of v (λ k. set (f k)) ≡ neighbours_of w set
neighbours_renamed v w f g is set =
    let one : neighbours_of v (λ k. set (f k)) ≤ neighbours_of w set = neighbours_le v w f g is set in
    let two : neighbours_of w (λ j. set (f (g j))) ≤ neighbours_of v (λ k. set (f k)) =
    neighbours_le w v g f (turned v w f g is) (λ k. set (f k)) in
    let three : neighbours_of w set ≤ neighbours_of w (λ j. set (f (g j))) = neighbours_back w v f g is set in
    omega arith

pub deficit_renamed : (v w : Domains) (f g : ℕ → ℕ) (deficit : ℕ) → IsRenamed v w f g → IsDeficit w deficit
    → IsDeficit v deficit
deficit_renamed v w f g deficit is h = record {
  bound = λ set.
      let back : IsRenamed w v g f = turned v w f g is in
      let size : size_of w (λ j. set (g j)) ≡ size_of v set = size_renamed w v g f back set in
      let near : neighbours_of w (λ j. set (g j)) ≡ neighbours_of v set = neighbours_renamed w v g f back set in
      omega (arith, h.bound (λ j. set (g j)));
  attained = ∥∥₁_map h.attained (λ a. attained a.0 a.1);
}
  where
    attained : (set : ℕ → Bool) → size_of w set ≡ neighbours_of w set + deficit
        → (other : ℕ → Bool) × (size_of v other ≡ neighbours_of v other + deficit)
    attained set e =
        let size : size_of v (λ k. set (f k)) ≡ size_of w set = size_renamed v w f g is set in
        let near : neighbours_of v (λ k. set (f k)) ≡ neighbours_of w set = neighbours_renamed v w f g is set in
        let same : size_of v (λ k. set (f k)) ≡ neighbours_of v (λ k. set (f k)) + deficit = omega arith in
        ((λ k. set (f k)), same)

-- a set has the greatest excess where it has it by its other numbers
greatest_renamed : (v w : Domains) (f g : ℕ → ℕ) → IsRenamed v w f g → (set : ℕ → Bool) → HasGreatestExcess w set
    → HasGreatestExcess v (λ k. set (f k))
greatest_renamed v w f g is set h = λ other.
    let back : IsRenamed w v g f = turned v w f g is in
    let size : size_of v (λ k. set (f k)) ≡ size_of w set = size_renamed v w f g is set in
    let near : neighbours_of v (λ k. set (f k)) ≡ neighbours_of w set = neighbours_renamed v w f g is set in
    let other_size : size_of w (λ j. other (g j)) ≡ size_of v other = size_renamed w v g f back other in
    let other_near : neighbours_of w (λ j. other (g j)) ≡ neighbours_of v other =
    neighbours_renamed w v g f back other in
    let most = h (λ j. other (g j)) in
    omega (arith, most, size, near, other_size, other_near)

-- the Hall set, by a set that is the same on present demands and has no others
pub hall_renamed : (v w : Domains) (f g : ℕ → ℕ) (set chosen : ℕ → Bool) → IsRenamed v w f g → IsHallSet w set
    → ((k : ℕ) → is_present v k ≡ true → chosen k ≡ set (f k)) → ((k : ℕ) → chosen k ≡ true → is_present v k ≡ true)
    → IsHallSet v chosen
hall_renamed v w f g set chosen is h same there = record {
  present = there;
  greatest = along (greatest_renamed v w f g is set h.greatest);
  least = λ other great k c.
      let p : is_present v k ≡ true = there k c in
      let m : other (g (f k)) ≡ true = h.least (λ j. other (g j))
      (greatest_renamed w v g f (turned v w f g is) other great) (f k) (sym (same k p) ∙ c) in
      sym (ap other (is.back k p)) ∙ m;
}
  where
    size : size_of v chosen ≡ size_of v (λ k. set (f k))
    size =
        let one : size_of v chosen ≤ size_of v (λ k. set (f k)) =
        count_subset (length v.demands) (λ k. is_present v k && chosen k) (λ k. is_present v k && set (f k))
        (λ k l e. let a = and_parts (is_present v k) (chosen k) e in
        and_from (is_present v k) (set (f k)) a.0 (sym (same k a.0) ∙ a.1)) in
        let two : size_of v (λ k. set (f k)) ≤ size_of v chosen =
        count_subset (length v.demands) (λ k. is_present v k && set (f k)) (λ k. is_present v k && chosen k)
        (λ k l e. let a = and_parts (is_present v k) (set (f k)) e in
        and_from (is_present v k) (chosen k) a.0 (same k a.0 ∙ a.1)) in
        omega arith

    near : neighbours_of v chosen ≤ neighbours_of v (λ k. set (f k))
    near =
        sum_le v.width (λ r. count_below v.last (λ t. is_neighbour v chosen r t))
        (λ r. count_below v.last (λ t. is_neighbour v (λ k. set (f k)) r t))
        (λ r x. count_subset v.last (λ t. is_neighbour v chosen r t) (λ t. is_neighbour v (λ k. set (f k)) r t)
        (λ t y e.
        let it = any_at (length v.demands) (λ k. chosen k && may_have v k r t) e in
        let k : ℕ = it.0 in
        let a = and_parts (chosen k) (may_have v k r t) it.2 in
        any_from (length v.demands) (λ i. set (f i) && may_have v i r t) k it.1
        (and_from (set (f k)) (may_have v k r t) (sym (same k (there k a.0)) ∙ a.0) a.1)))

    along : HasGreatestExcess v (λ k. set (f k)) → HasGreatestExcess v chosen
    along great = λ other. let most = great other in omega (arith, most, size, near)
