-- The matching stays a maximum.
use Rattle.std.proofs.Common.{ℕ, zero, suc, ◌+◌, ◌*◌, ◌/◌, ◌%◌, ◌<◌, ◌≤◌, ◌≡◌, ◌≢◌, Bool, true, false, ◌&&◌, Option}
use Rattle.std.proofs.Common.{None, length, get_or, set, refl, sym, ap, ◌∙◌, subst, arith, length-set, get_or-set_other}
use Rattle.std.proofs.Common.{add-zero, add-suc, zero-mul}
use Rattle.std.specs.Prelude.{is_none, is_some}
use Rattle.std.proofs.lemmas.Bool.{and_parts, and_from}
use Rattle.std.proofs.lemmas.Nat.{div-mul-add, mod-mul-add}
use Rattle.demand_matching.specs.declared.domains.Domain.{Domain}
use Rattle.demand_matching.specs.declared.table.Table.{Table}
use Rattle.demand_matching.specs.declared.order.Order.{Order}
use Rattle.demand_matching.specs.Counts.{count_below, sum_below}
use Rattle.demand_matching.specs.Domains.{Domains, is_present, domain_of, admits_where_present, with_domain}
use Rattle.demand_matching.specs.Excess.{size_of, neighbours_of, is_neighbour}
use Rattle.demand_matching.specs.Listing.{IsListing}
use Rattle.demand_matching.specs.Assigned.{IsSaturated}
use Rattle.demand_matching.specs.Table.{domains_of, may_take, supply_of, owner_of, demands_in, supplies_in, IsTable}
use Rattle.demand_matching.proofs.Counting.{count_same, count_partners, count_all, count-zero}
use Rattle.demand_matching.proofs.Duality.{size, neighbours, left_out, reaches, HasLeftOut, without, size_le}
use Rattle.demand_matching.proofs.Duality.{saturated_size, exceeding_left, exceeding_saturated, neighbours-without}
use Rattle.demand_matching.proofs.Duality.{size-without, size-without_absent, none_is, none_from}
use Rattle.demand_matching.proofs.Supplies.{may_present}

count-add : (a b : ℕ) (p : ℕ → Bool) → count_below (a + b) p ≡ count_below a p + count_below b (λ k. p (a + k))
unfolding count_below
count-add a zero p = rw add-zero (omega (arith, count-zero (λ k. p (a + k))))
count-add a (suc b) p = rw add-suc (omega (arith, count-add a b p))

-- the supplies as numbers, resource by resource
pub sum-count : (w l : ℕ) (p : ℕ → Bool) (q : ℕ → ℕ → Bool) → ((r t : ℕ) → t < l → p (r * l + t) ≡ q r t)
    → sum_below w (λ r. count_below l (λ t. q r t)) ≡ count_below (w * l) p
unfolding sum_below
sum-count zero l p q same = rw zero-mul (sym (count-zero p))
sum-count (suc w) l p q same =
    let row : count_below l (λ t. p (w * l + t)) ≡ count_below l (λ t. q w t) =
    count_same l (λ t. p (w * l + t)) (λ t. q w t) (λ t m. same w t m) in
    let all : count_below (w * l + l) p ≡ count_below (w * l) p + count_below l (λ t. p (w * l + t)) =
    count-add (w * l) l p in
    let rest : sum_below w (λ r. count_below l (λ t. q r t)) ≡ count_below (w * l) p = sum-count w l p q same in
    let size : suc w * l ≡ w * l + l = omega arith in
    omega (arith, ap (λ n. count_below n p) size)

pub neighbours_is : (w : Domains) (set : ℕ → Bool)
    → neighbours_of w set ≡ neighbours (length w.demands) (w.width * w.last) (may_take w) set
neighbours_is w set =
    sum-count w.width w.last (reaches (length w.demands) (may_take w) set) (λ r t. is_neighbour w set r t)
    (λ r t l. ap (λ x. is_neighbour w set x ((r * w.last + t) % w.last)) (div-mul-add r w.last t l)
    ∙ ap (λ x. is_neighbour w set r x) (mod-mul-add r w.last t l))

-- as many demands are left out as the order has at first
pub listing_count : (t : Table) (o : Order) (left : ℕ) → IsListing t o left
    → left_out (demands_in t) (is_present (domains_of t)) (supply_of t) ≡ left
listing_count t o left is =
    let p : ℕ → Bool = λ d. is_present (domains_of t) d && is_none (supply_of t d) in
    let one : count_below (demands_in t) p ≤ count_below left (λ _. true) =
    count_partners (demands_in t) left p (λ _. true) (λ d k. (d < demands_in t) × (get_or o.spots.items d 0 ≡ k))
    (λ d l h. let a = and_parts (is_present (domains_of t) d) (is_none (supply_of t d)) h in
    (get_or o.spots.items d 0, is.listed d l a.0 (none_is (supply_of t d) a.1), refl, (l, refl)))
    (λ d e k x y. sym (is.order.order_spot d x.0) ∙ ap (λ v. get_or o.demands.items v 0) (x.1 ∙ sym y.1)
    ∙ is.order.order_spot e y.0) in
    let two : count_below left (λ _. true) ≤ count_below (demands_in t) p =
    count_partners left (demands_in t) (λ _. true) p (λ k d. (k < left) × (get_or o.demands.items k 0 ≡ d))
    (λ k l h.
    let near : k < demands_in t = omega (arith, is.fits) in
    let d : ℕ = get_or o.demands.items k 0 in
    let below : d < demands_in t = is.order.order_below k near in
    let low : get_or o.spots.items d 0 < left = omega (arith, is.order.spot_order k near) in (
      d,
      below,
      and_from (is_present (domains_of t) d) (is_none (supply_of t d)) (is.present d below low)
          (none_from (supply_of t d) (is.left_out d below low)),
      (l, refl),
    ))
    (λ j k d x y. sym (is.order.spot_order j (omega (arith, is.fits, x.0)))
    ∙ ap (λ v. get_or o.spots.items v 0) (x.1 ∙ sym y.1) ∙ is.order.spot_order k (omega (arith, is.fits, y.0))) in
    omega (arith, count_all left)

pub bounded : (t : Table) (o : Order) (left : ℕ) → IsTable t → IsListing t o left → (set : ℕ → Bool)
    → size_of (domains_of t) set ≤ neighbours_of (domains_of t) set + left
bounded t o left is listing set =
    omega (
      arith,
      size_le (demands_in t) (supplies_in t) (is_present (domains_of t)) (may_take (domains_of t))
          (supply_of t) (owner_of t) is.matching set,
      neighbours_is (domains_of t) set,
      listing_count t o left listing,
    )

pub saturated_exceeds : (t : Table) (o : Order) (left : ℕ) → IsTable t → IsListing t o left → (set : ℕ → Bool)
    → HasLeftOut (demands_in t) (is_present (domains_of t)) (supply_of t) set
    → IsSaturated (demands_in t) (supplies_in t) (may_take (domains_of t)) (owner_of t) set
    → neighbours_of (domains_of t) set + left ≤ size_of (domains_of t) set
saturated_exceeds t o left is listing set has full =
    omega (
      arith,
      saturated_size (demands_in t) (supplies_in t) (is_present (domains_of t)) (may_take (domains_of t))
          (supply_of t) (owner_of t) is.matching (λ d s h. may_present (domains_of t) d s h) set has full,
      neighbours_is
          (domains_of t) set,
      listing_count t o left listing,
    )

pub exceeds_left : (t : Table) (o : Order) (left : ℕ) → IsTable t → IsListing t o left → (set : ℕ → Bool)
    → neighbours_of (domains_of t) set + left ≤ size_of (domains_of t) set
    → HasLeftOut (demands_in t) (is_present (domains_of t)) (supply_of t) set
exceeds_left t o left is listing set much =
    exceeding_left (demands_in t) (supplies_in t) (is_present (domains_of t)) (may_take (domains_of t)) (supply_of t)
    (owner_of t) is.matching set (omega (arith, neighbours_is (domains_of t) set, listing_count t o left listing))

pub exceeds_saturated : (t : Table) (o : Order) (left : ℕ) → IsTable t → IsListing t o left → (set : ℕ → Bool)
    → neighbours_of (domains_of t) set + left ≤ size_of (domains_of t) set
    → IsSaturated (demands_in t) (supplies_in t) (may_take (domains_of t)) (owner_of t) set
exceeds_saturated t o left is listing set much =
    exceeding_saturated (demands_in t) (supplies_in t) (is_present (domains_of t)) (may_take (domains_of t))
    (supply_of t) (owner_of t) is.matching set (omega
    (arith, neighbours_is (domains_of t) set, listing_count t o left listing))

-- the domains of the other demands stay
pub other_domain : (w : Domains) (d e : ℕ) (x : Option Domain) → e ≢ d → domain_of (with_domain w d x) e ≡ domain_of w e
other_domain w d e x ne = get_or-set_other w.demands d e x None ne

pub other_present : (w : Domains) (d e : ℕ) (x : Option Domain) → e ≢ d
    → is_present (with_domain w d x) e ≡ is_present w e
other_present w d e x ne = ap is_some (other_domain w d e x ne)

pub other_may : (w : Domains) (d e s : ℕ) (x : Option Domain) → e ≢ d
    → may_take (with_domain w d x) e s ≡ may_take w e s
other_may w d e s x ne = ap (λ o. admits_where_present w.times w.resources o (s / w.last) (s % w.last))
    (other_domain w d e x ne)

-- without the demand whose domain changes, a set has no more supplies
pub neighbours_of-without : (w : Domains) (d : ℕ) (x : Option Domain) (set : ℕ → Bool)
    → neighbours_of (with_domain w d x) (without set d) ≤ neighbours_of w set
neighbours_of-without w d x set =
    let n : length (with_domain w d x).demands ≡ length w.demands = length-set w.demands d x in
    let less = neighbours-without (length w.demands) (w.width * w.last) (may_take w) (may_take (with_domain w d x)) d
    (λ e s ne. other_may w d e s x ne) set in
    omega (
      arith,
      less,
      neighbours_is w set,
      neighbours_is (with_domain w d x) (without set d),
      ap (λ k. neighbours k (w.width * w.last) (may_take (with_domain w d x)) (without set d)) n,
    )

pub size_of-without : (w : Domains) (d : ℕ) (x : Option Domain) (set : ℕ → Bool)
    → size_of w set ≤ suc (size_of (with_domain w d x) (without set d))
size_of-without w d x set =
    let n : length (with_domain w d x).demands ≡ length w.demands = length-set w.demands d x in
    omega (
      arith,
      size-without (length w.demands) (is_present w) (is_present (with_domain w d x)) d
          (λ e ne. other_present w d e x ne) set,
      ap (λ k. size k (is_present (with_domain w d x)) (without set d)) n,
    )

pub size_of-without_absent : (w : Domains) (d : ℕ) (x : Option Domain) (set : ℕ → Bool) → is_present w d ≡ false
    → size_of w set ≤ size_of (with_domain w d x) (without set d)
size_of-without_absent w d x set gone =
    let n : length (with_domain w d x).demands ≡ length w.demands = length-set w.demands d x in
    omega (
      arith,
      size-without_absent (length w.demands) (is_present w) (is_present (with_domain w d x)) d
          (λ e ne. other_present w d e x ne) gone set,
      ap (λ k. size k (is_present (with_domain w d x)) (without set d))
          n,
    )

-- without a demand that goes, a set exceeds its supplies by one less at most
pub exceeds_less : (w : Domains) (d left less : ℕ) (x : Option Domain) (set : ℕ → Bool) → less + 1 ≡ left
    → neighbours_of w set + left ≤ size_of w set → neighbours_of (with_domain w d x) (without set d) + less ≤ size_of
    (with_domain w d x) (without set d)
exceeds_less w d left less x set one much = omega
    (arith, much, neighbours_of-without w d x set, size_of-without w d x set)

-- without a demand that comes, by as much
pub exceeds_same : (w : Domains) (d left : ℕ) (x : Option Domain) (set : ℕ → Bool) → is_present w d ≡ false
    → neighbours_of w set + left ≤ size_of w set → neighbours_of (with_domain w d x) (without set d) + left ≤ size_of
    (with_domain w d x) (without set d)
exceeds_same w d left x set gone much = omega
    (arith, much, neighbours_of-without w d x set, size_of-without_absent w d x set gone)

pub exceeds_along : (w w' : Domains) (set : ℕ → Bool) (left : ℕ) → w' ≡ w → neighbours_of w set + left ≤ size_of w set
    → neighbours_of w' set + left ≤ size_of w' set
exceeds_along w w' set left e much =
    let P : Domains → Type 0 = λ v. neighbours_of v set + left ≤ size_of v set in
    subst P (sym e) much
