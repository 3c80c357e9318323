-- A number and a set with the properties of the deficit and of the Hall set are those of the definition
-- by all sets.
use Rattle.std.proofs.Common.{ℕ, zero, suc, ◌+◌, ◌<◌, ◌≤◌, ◌≡◌, Bool, true, false, not, ◌&&◌, cond, List, [], ◌∷◌}
use Rattle.std.proofs.Common.{length, refl, sym, ap, subst, ◌∙◌, arith}
use Rattle.std.specs.Prelude.{◌||◌, ◌^◌}
use Rattle.std.specs.List.{range_with_len}
use Rattle.std.proofs.Props.{props}
use Rattle.std.proofs.Math.Logic.{∥∥₁_elim}
use Rattle.std.proofs.lemmas.Bool.{and_from, eq-eqb, eqb-true}
use Rattle.std.proofs.lemmas.List.{length-map}
use Rattle.khe_base.specs.IdSet.{has_member}
use Rattle.khe_instance.specs.declared.parts.Parts.{Parts}
use Rattle.khe_told.specs.declared.slots.Slot.{Slot}
use Rattle.demand_matching.specs.Counts.{any_below, count_below, sum_below}
use Rattle.demand_matching.specs.Domains.{Domains, is_present, may_have}
use Rattle.demand_matching.specs.Excess.{size_of, neighbours_of, is_neighbour, HasGreatestExcess, IsDeficit, IsHallSet}
use Rattle.demand_matching.proofs.Counting.{count_all, count_same, count_subset}
use Rattle.hall_report.specs.Demands.{IsDeficitOf, IsHallOf, chosen, demands, domains, own_domain}
use Rattle.hall_report.specs.declared.demand.Demand.{Demand}
use Rattle.hall_report.proofs.ListingLaws.{chosen_moved}
use Rattle.hall_report.proofs.Renaming.{size_renamed}
use Rattle.hall_report.proofs.Safe.{safe}
use Rattle.hall_report.proofs.Stated.{is_own, kept_number, kept_place, renamed}
use Rattle.hall_report.specs.Kept.{AreOf}
use Rattle.hall_report.specs.declared.renewing.Picks.{Picks}
use Rattle.hall_report.specs.declared.units.Units.{Units}
use Rattle.hall_report.specs.Shortages.{all_sets, competes, deficit_of, excess_of, greatest_excess}
use Rattle.hall_report.specs.Shortages.{hall_of, has_greatest}
use Rattle.hall_report.proofs.AllSets.{all_at, all_from, greatest_ge, greatest_le, has_passing, is_listed, passing}

-- sets that agree on the demands
any_same : (n : ℕ) (a b : ℕ → Bool) → ((k : ℕ) → k < n → a k ≡ b k) → any_below n a ≡ any_below n b
unfolding any_below
any_same zero a b h = refl
any_same (suc n) a b h = ap (λ x. x || any_below n a) (h n (omega arith))
    ∙ ap (λ x. b n || x) (any_same n a b (λ k l. h k (omega (arith, l))))

sum_same : (n : ℕ) (a b : ℕ → ℕ) → ((k : ℕ) → a k ≡ b k) → sum_below n a ≡ sum_below n b
unfolding sum_below
sum_same zero a b h = refl
sum_same (suc n) a b h = ap (λ x. x + sum_below n a) (h n) ∙ ap (λ x. b n + x) (sum_same n a b h)

module _ (w : Domains) (a b : ℕ → Bool) (same : (k : ℕ) → k < length w.demands → a k ≡ b k) where
  pub size_same : size_of w a ≡ size_of w b
  size_same = count_same (length w.demands) (λ k. is_present w k && a k) (λ k. is_present w k && b k)
      (λ k l. ap (λ x. is_present w k && x) (same k l))

  pub near_same : neighbours_of w a ≡ neighbours_of w b
  near_same =
      sum_same w.width (λ r. count_below w.last (λ t. is_neighbour w a r t))
      (λ r. count_below w.last (λ t. is_neighbour w b r t))
      (λ r. count_same w.last (λ t. is_neighbour w a r t) (λ t. is_neighbour w b r t)
      (λ t l. any_same (length w.demands) (λ k. a k && may_have w k r t) (λ k. b k && may_have w k r t)
      (λ k m. ap (λ x. x && may_have w k r t) (same k m))))

-- the set of a test
abbrev pub listed : Domains → (ℕ → Bool) → List Bool
listed w set = passing (length w.demands) set

pub size_listed : (w : Domains) (set : ℕ → Bool) → size_of w (has_member (listed w set)) ≡ size_of w set
size_listed w set = size_same w (has_member (listed w set)) set (has_passing (length w.demands) set)

pub near_listed : (w : Domains) (set : ℕ → Bool) → neighbours_of w (has_member (listed w set)) ≡ neighbours_of w set
near_listed w set = near_same w (has_member (listed w set)) set (has_passing (length w.demands) set)

-- the deficit
at_least : (w : Domains) (deficit : ℕ) (set : ℕ → Bool) → size_of w set ≡ neighbours_of w set + deficit
    → deficit ≤ greatest_excess w
unfolding greatest_excess
at_least w deficit set e =
    let size = size_listed w set in
    let near = near_listed w set in
    let most : excess_of w (listed w set) ≤ greatest_excess w =
    greatest_ge (excess_of w) (all_sets (length w.demands)) (listed w set) (is_listed (length w.demands) set) in
    omega (arith, e, size, near, most)

at_most : (w : Domains) (deficit : ℕ) → IsDeficit w deficit → greatest_excess w ≤ deficit
unfolding greatest_excess
at_most w deficit is = greatest_le (excess_of w) (all_sets (length w.demands)) deficit
    (λ set. let b = is.bound (has_member set) in omega (arith, b))

pub deficit_is : (w : Domains) (deficit : ℕ) → IsDeficit w deficit → deficit ≡ greatest_excess w
deficit_is w deficit is =
    let low : deficit ≤ greatest_excess w = ∥∥₁_elim is.attained (hlevel props) (λ x. at_least w deficit x.0 x.1) in
    let high = at_most w deficit is in
    omega (arith, low, high)

-- the sets with the greatest excess
module _ (w : Domains) (is : IsDeficit w (greatest_excess w)) where
  great_from : (set : List Bool) → has_greatest w set ≡ true → HasGreatestExcess w (has_member set)
  great_from set h = λ other.
      let e : size_of w (has_member set) ≡ neighbours_of w (has_member set) + greatest_excess w =
      eqb-true (size_of w (has_member set)) (neighbours_of w (has_member set) + greatest_excess w) h in
      let b = is.bound other in
      omega (arith, e, b)

  reached : (set : ℕ → Bool) → HasGreatestExcess w set → (other : ℕ → Bool)
      → size_of w other ≡ neighbours_of w other + greatest_excess w
      → neighbours_of w set + greatest_excess w ≤ size_of w set
  reached set great other e = let g = great other in omega (arith, e, g)

  great_is : (set : ℕ → Bool) → HasGreatestExcess w set → has_greatest w (listed w set) ≡ true
  great_is set great =
      let low : neighbours_of w set + greatest_excess w ≤ size_of w set =
      ∥∥₁_elim is.attained (hlevel props) (λ x. reached set great x.0 x.1) in
      let high = is.bound set in
      let size = size_listed w set in
      let near = near_listed w set in
      let e : size_of w (has_member (listed w set)) ≡ neighbours_of w (has_member (listed w set)) + greatest_excess w =
      omega (arith, low, high, size, near) in
      eq-eqb (size_of w (has_member (listed w set))) (neighbours_of w (has_member (listed w set)) + greatest_excess w) e

  -- the Hall set
  module _ (set : ℕ → Bool) (hall : IsHallSet w set) (d : ℕ) (there : d < length w.demands) where
    in_each : set d ≡ true → (x : List Bool) → (not (has_greatest w x) || has_member x d) ≡ true
    in_each h x = by_case (has_greatest w x) refl
      where
        by_case : (b : Bool) → has_greatest w x ≡ b → (not b || has_member x d) ≡ true
        by_case false e = refl
        by_case true e = hall.least (has_member x) (great_from x e) d h

    competes_from : set d ≡ true → competes w d ≡ true
    unfolding competes
    competes_from h = all_from (λ x. not (has_greatest w x) || has_member x d) (all_sets (length w.demands)) (in_each h)

    in_hall : competes w d ≡ true → set d ≡ true
    unfolding competes
    in_hall h =
        let own = all_at (λ x. not (has_greatest w x) || has_member x d) (all_sets (length w.demands)) (listed w set) h
        (is_listed (length w.demands) set) in
        let great : has_greatest w (listed w set) ≡ true = great_is set hall.greatest in
        sym (has_passing (length w.demands) set d there) ∙ sym (ap (λ b. not b || has_member (listed w set) d) great)
        ∙ own

    pub hall_same : set d ≡ competes w d
    hall_same = both_ways (set d) (competes w d) competes_from in_hall
      where
        both_ways : (a b : Bool) → (a ≡ true → b ≡ true) → (b ≡ true → a ≡ true) → a ≡ b
        both_ways true b f g = sym (f refl)
        both_ways false true f g = g refl
        both_ways false false f g = refl

-- of a told state
module _ (p : Parts) (s : List Slot) where
  range_length : (a n : ℕ) → length (range_with_len a n) ≡ n
  range_length a zero = refl
  range_length a (suc n) = ap suc (range_length (a + 1) n)

  many : length (domains p s).demands ≡ length (demands p s)
  many = length-map (range_with_len 0 (length (demands p s))) own_domain ∙ range_length 0 (length (demands p s))

  pub deficit_told : (deficit : ℕ) → IsDeficitOf p s deficit → deficit ≡ deficit_of p s
  unfolding deficit_of
  deficit_told deficit is = deficit_is (domains p s) deficit is

  pub hall_told : (deficit : ℕ) (hall : List Demand) → IsDeficitOf p s deficit → IsHallOf p s hall → hall ≡ hall_of p s
  unfolding hall_of
  hall_told deficit hall is (test, least, listed) =
      let w : Domains = domains p s in
      let own : IsDeficit w (greatest_excess w) = subst (IsDeficit w) (deficit_is w deficit is) is in
      listed ∙ chosen_moved test (competes w) 0 0 (demands p s)
      (λ i l. hall_same w own test least (0 + i) (omega (arith, l, many)))

-- 32 bits count all demands of a told state, and so those that compete
module _ (p : Parts) (s : List Slot) (u : Units) (picks : Picks) (w : Domains) (cells : List ℕ) (tasks times : ℕ)
    (are : AreOf p s u picks w cells tasks times) where
  as_many : size_of (domains p s) (λ k. true) ≡ size_of w (λ k. true)
  as_many = size_renamed (domains p s) w (kept_number p s u picks w cells are.told are.units are.opened are.numbered)
      (kept_place p s u picks w cells are.told are.units are.opened are.numbered)
      (renamed p s u picks w cells are.told are.units are.opened are.numbered) (λ k. true)

  all_present : length (demands p s) ≡ size_of (domains p s) (λ k. true)
  all_present =
      sym (many p s) ∙ sym (count_all (length (domains p s).demands))
      ∙ count_same (length (domains p s).demands) (λ k. true) (λ k. is_present (domains p s) k && true)
      (λ k l. sym (and_from (is_present (domains p s) k) true
      (is_own p s u picks w cells are.told are.units are.opened are.numbered k (omega (arith, l, many p s))) refl))

  pub few_demands : length (demands p s) < 2 ^ 32
  few_demands =
      let safely = safe s u picks w cells tasks times ∣ (p, are) ∣₁ in
      let size = safely.size in
      let total = safely.total in
      let all = all_present in
      let same = as_many in
      let most : size_of w (λ k. true) ≤ length w.demands =
      omega (
        arith,
        count_subset (length w.demands) (λ k. is_present w k && true) (λ k. true) (λ k l e. refl),
        count_all
            (length w.demands),
      ) in
      omega (arith, size, total, all, same, most)

  pub chosen_few : (test : ℕ → Bool) (n : ℕ) (ds : List Demand) → length (chosen test n ds) ≤ length ds
  chosen_few test n [] = omega arith
  chosen_few test n (d ∷ ds) = one_more (test n) (chosen test (n + 1) ds) (chosen_few test (n + 1) ds)
    where
      one_more : (b : Bool) (rest : List Demand) → length rest ≤ length ds
          → length (cond b (d ∷ rest) rest) ≤ suc (length ds)
      one_more true rest l = omega (arith, l)
      one_more false rest l = omega (arith, l)
