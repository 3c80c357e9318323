-- What is reached from the demands that are left out is the least set of the greatest excess.
use Rattle.std.proofs.Common.{ℕ, ◌+◌, ◌*◌, ◌<◌, ◌≤◌, ◌≡◌, ◌≢◌, Bool, true, false, ◌++◌, ◌∷◌, [], List, Option, Some}
use Rattle.std.proofs.Common.{None, length, get_or, refl, sym, ap, ◌∙◌, arith, inl, inr, get_or-set_same}
use Rattle.std.proofs.Common.{get_or-set_other, length-set}
use Rattle.std.proofs.lemmas.Bool.{cases_order, true≢false}
use Rattle.std.proofs.lemmas.List.{get_or_append_left, get_or_push, length_push, get_or_read}
use Rattle.khe_base.specs.IdSet.{has_member, with_member}
use Rattle.demand_matching.specs.declared.domains.Domain.{Domain}
use Rattle.demand_matching.specs.declared.reach.Reach.{Reach}
use Rattle.demand_matching.specs.declared.table.Table.{Table}
use Rattle.demand_matching.specs.declared.order.Order.{Order}
use Rattle.demand_matching.specs.Counts.{count_below}
use Rattle.demand_matching.specs.Domains.{is_present, is_picked, domain_of}
use Rattle.demand_matching.specs.Listing.{IsListing}
use Rattle.demand_matching.specs.Members.{picked}
use Rattle.demand_matching.specs.Reach.{IsInAll, IsReach, Reaches, IsReached}
use Rattle.demand_matching.specs.Table.{domains_of, may_take, owner_of, demands_in, supplies_in, admits_supply, IsTable}
use Rattle.demand_matching.proofs.Counting.{cases_eqb, cases_last, count_partners, count_subset, count_all}
use Rattle.demand_matching.proofs.Duality.{same_some}
use Rattle.demand_matching.proofs.Picks.{picked_found}
use Rattle.demand_matching.proofs.Supplies.{supply_at, picked_below, picked_supply, supply_found, may_is, may_present}
use Rattle.khe_base.proofs.IdSetLemmas.{member_below}

-- whoever has a supply that a demand may have is in all sets that this one is in
pub in_all_next : (t : Table) (d by s : ℕ) → IsTable t → d < demands_in t → IsInAll t d
    → may_take (domains_of t) d s ≡ true → owner_of t s ≡ Some by → IsInAll t by
in_all_next t d by s is l all may owner set has full =
    let r = full d s l (all set has full) (is.matching.supply by s (is.matching.holds s by owner)) may in
    ap set (same_some by r.0 (owner_of t s) owner r.1) ∙ r.2

pub reach_none : (t : Table) (marks : List Bool) (demands : List ℕ) → length demands ≡ 0 → length marks ≡ demands_in t
    → ((d : ℕ) → has_member marks d ≡ true → ⊥) → IsReach t demands marks
reach_none t marks demands empty size none = record {
  size = size;
  listed = λ d h. absurd (none d h);
  marked = λ k l. absurd (omega arith);
  apart = λ j k l m. absurd (omega arith);
  there = λ d h. absurd (none d h);
  all = λ d h. absurd (none d h);
}

pub reaches_none : (t : Table) (r : Reach) → IsReach t r.demands r.marks → Reaches t r r
reaches_none t r is = record { reach = is; longer = omega arith; keeps = λ k l. refl; marks = λ d h. h }

pub reaches_trans : (t : Table) (a b c : Reach) → Reaches t a b → Reaches t b c → Reaches t a c
reaches_trans t a b c p q = record {
  reach = q.reach;
  longer = omega (arith, p.longer, q.longer);
  keeps = λ k l. q.keeps k (omega (arith, p.longer)) ∙ p.keeps k l;
  marks = λ d h. q.marks d (p.marks d h);
}

-- one demand more
pub member_same : (marks : List Bool) (d : ℕ) → d < length marks → has_member (with_member marks d) d ≡ true
member_same marks d l = get_or-set_same marks d true false l

member_other : (marks : List Bool) (d e : ℕ) → e ≢ d → has_member (with_member marks d) e ≡ has_member marks e
member_other marks d e ne = get_or-set_other marks d e true false ne

pub reaches_more : (t : Table) (r r' : Reach) (d : ℕ) → IsReach t r.demands r.marks → d < demands_in t
    → is_present (domains_of t) d ≡ true → IsInAll t d → has_member r.marks d ≡ false → r'.demands ≡ r.demands ++ d ∷ []
    → r'.marks ≡ with_member r.marks d → Reaches t r r'
reaches_more t r r' d is l here all new ds ms =
    let size : d < length r.marks = omega (arith, is.size) in
    let len : length r'.demands ≡ length r.demands + 1 = ap length ds ∙ length_push r.demands d in
    let at : get_or r'.demands (length r.demands) 0 ≡ d =
    ap (λ v. get_or v (length r.demands) 0) ds ∙ get_or_push r.demands d 0 (length r.demands) refl in
    let old : (k : ℕ) → k < length r.demands → get_or r'.demands k 0 ≡ get_or r.demands k 0 =
    λ k m. ap (λ v. get_or v k 0) ds ∙ get_or_append_left r.demands (d ∷ []) 0 k m in
    let now : has_member r'.marks d ≡ true = ap (λ v. has_member v d) ms ∙ member_same r.marks d size in
    let other : (e : ℕ) → e ≢ d → has_member r'.marks e ≡ has_member r.marks e =
    λ e ne. ap (λ v. has_member v e) ms ∙ member_other r.marks d e ne in
    let still : (e : ℕ) → has_member r.marks e ≡ true → has_member r'.marks e ≡ true = λ e h. elim (cases_eqb e d) [
      | inl x ↦ ap (has_member r'.marks) x ∙ now
      | inr x ↦ other e x ∙ h
    ] in
    record {
      longer = omega arith;
      keeps = old;
      marks = still;
      reach = record {
        size = ap length ms ∙ length-set r.marks d true ∙ is.size;
        listed = λ e h. elim (cases_eqb e d) [
          | inl x ↦ (length r.demands, omega arith, at ∙ sym x)
          | inr x ↦ let it = is.listed e (sym (other e x) ∙ h) in (it.0, omega (arith, it.1), old it.0 it.1 ∙ it.2)
        ];
        marked = λ k m. elim (cases_last k (length r.demands) (omega arith)) [
          | inl x ↦ ap (λ v. has_member r'.marks (get_or r'.demands v 0)) x ∙ ap (has_member r'.marks) at ∙ now
          | inr less ↦ ap (has_member r'.marks) (old k less) ∙ still (get_or r.demands k 0) (is.marked k less)
        ];
        apart = λ j k m n. elim (cases_last k (length r.demands) (omega arith)) [
          | inl x ↦ λ z. true≢false (sym (is.marked j (omega arith))
              ∙ ap (has_member r.marks) (sym (old j (omega arith)) ∙ z ∙ ap (λ v. get_or r'.demands v 0) x ∙ at) ∙ new)
          | inr less ↦ λ z. is.apart j k m less (sym (old j (omega arith)) ∙ z ∙ old k less)
        ];
        there = λ e h. elim (cases_eqb e d) [
          | inl x ↦ ap (is_present (domains_of t)) x ∙ here
          | inr x ↦ is.there e (sym (other e x) ∙ h)
        ];
        all = λ e h. elim (cases_eqb e d) [
          | inl x ↦ λ set has full. ap set x ∙ all set has full
          | inr x ↦ is.all e (sym (other e x) ∙ h)
        ];
      };
    }

-- no more are listed than are marked, and no more than there are
pub reach_count : (t : Table) (demands : List ℕ) (marks : List Bool) → IsReach t demands marks
    → length demands ≤ count_below (demands_in t) (has_member marks)
reach_count t demands marks is =
    let n : ℕ = length demands in
    let low : count_below n (λ _. true) ≤ count_below (demands_in t) (has_member marks) =
    count_partners n (demands_in t) (λ _. true) (has_member marks) (λ k d. (k < n) × (get_or demands k 0 ≡ d))
    (λ k l h. (
      get_or demands k 0,
      omega (arith, member_below marks (get_or demands k 0) (is.marked k l), is.size),
      is.marked k l,
      (l, refl),
    ))
    (λ j k d x y. elim (cases_order j k) [
      | inl e ↦ e
      | inr r ↦ elim r [
        | inl l ↦ absurd (is.apart j k l y.0 (x.1 ∙ sym y.1))
        | inr g ↦ absurd (is.apart k j g x.0 (y.1 ∙ sym x.1))
      ]
    ]) in
    omega (arith, count_all n)

pub reach_fits : (t : Table) (demands : List ℕ) (marks : List Bool) → IsReach t demands marks
    → length demands ≤ demands_in t
reach_fits t demands marks is = omega (
  arith,
  reach_count t demands marks is,
  count_subset (demands_in t) (has_member marks) (λ _. true) (λ k l h. refl),
  count_all (demands_in t),
)

-- the marks say what is reached from those left out
pub reached_is : (t : Table) (o : Order) (r : Reach) (left : ℕ) → IsListing t o left → IsReach t r.demands r.marks
    → ((k : ℕ) → k < left → has_member r.marks (get_or o.demands.items k 0) ≡ true)
    → ((d s by : ℕ) → has_member r.marks d ≡ true → may_take (domains_of t) d s ≡ true → owner_of t s ≡ Some by
    → has_member r.marks by ≡ true) → IsReached t r.marks
reached_is t o r left listing is from next = record {
  size = is.size;
  there = is.there;
  all = is.all;
  left_out = λ d l p n. ap (has_member r.marks) (sym (listing.order.order_spot d l))
      ∙ from (get_or o.spots.items d 0) (listing.listed d l p n);
  owners = next;
}

-- who has a supply, as the list has it
pub owner_is : (t : Table) (s : ℕ) (x : Option ℕ) → IsTable t → s < supplies_in t → x ≡ get_or t.owners.items s x
    → x ≡ owner_of t s
owner_is t s x is l read = get_or_read t.owners.items s x (omega (arith, is.owners_length)) read None

pub owner_there : (t : Table) (s by : ℕ) → IsTable t → owner_of t s ≡ Some by → is_present (domains_of t) by ≡ true
owner_there t s by is owner = may_present (domains_of t) by s (is.matching.allowed by s (is.matching.holds s by owner))

-- the supplies of one resource
pub picked_reached : (t : Table) (d : Domain) (r : Reach) (resource row count time by : ℕ)
    → row ≡ resource * t.last + d.shift → length (picked t.times d.times) ≤ count
    → ((j by : ℕ) → j < count → owner_of t (row + get_or (picked t.times d.times) j 0) ≡ Some by
    → has_member r.marks by ≡ true) → is_picked t.times d.times time ≡ true
    → owner_of t (resource * t.last + d.shift + time) ≡ Some by → has_member r.marks by ≡ true
picked_reached t d r resource row count time by row_is l reached p owner =
    let at = picked_found t.times d.times time p in
    let same : row + get_or (picked t.times d.times) at.0 0 ≡ resource * t.last + d.shift + time =
    omega (arith, at.2) in
    reached at.0 by (omega (arith, at.1)) (ap (owner_of t) same ∙ owner)

-- all supplies of a domain
pub all_picked_reached : (t : Table) (d : Domain) (r : Reach) (from count s by : ℕ)
    → domain_of (domains_of t) from ≡ Some d → length (picked t.resources d.resources) ≤ count
    → ((j time by : ℕ) → j < count → is_picked t.times d.times time ≡ true
    → owner_of t (get_or (picked t.resources d.resources) j 0 * t.last + d.shift + time) ≡ Some by
    → has_member r.marks by ≡ true)
    → may_take (domains_of t) from s ≡ true → owner_of t s ≡ Some by → has_member r.marks by ≡ true
all_picked_reached t d r from count s by its l reached may owner =
    let it = supply_found (domains_of t) d s (sym (may_is (domains_of t) d from s its) ∙ may) in
    let at = picked_found t.resources d.resources it.0 it.2 in
    let same : get_or (picked t.resources d.resources) at.0 0 * t.last + d.shift + it.1 ≡ s =
    ap (λ v. v * t.last + d.shift + it.1) at.2 ∙ it.4 in
    reached at.0 it.1 by (omega (arith, at.1)) it.3 (ap (owner_of t) same ∙ owner)

-- the supply of a resource and a time of a domain
pub picked_allowed : (t : Table) (d : Domain) (from resource row time : ℕ) → IsTable t
    → domain_of (domains_of t) from ≡ Some d → is_picked t.resources d.resources resource ≡ true
    → is_picked t.times d.times time ≡ true → row ≡ resource * t.last + d.shift
    → may_take (domains_of t) from (row + time) ≡ true
picked_allowed t d from resource row time is its p q row_is =
    let same : supply_at (domains_of t) d resource time ≡ row + time = omega arith in
    may_is (domains_of t) d from (row + time) its ∙ ap (admits_supply (domains_of t) d) (sym same)
    ∙ picked_supply (domains_of t) d resource time (is.in_range from d its) p q

pub picked_in : (t : Table) (d : Domain) (from resource row time : ℕ) → IsTable t
    → domain_of (domains_of t) from ≡ Some d → is_picked t.resources d.resources resource ≡ true
    → is_picked t.times d.times time ≡ true → row ≡ resource * t.last + d.shift → row + time < supplies_in t
picked_in t d from resource row time is its p q row_is =
    omega (arith, picked_below (domains_of t) d resource time (is.in_range from d its) p q)
