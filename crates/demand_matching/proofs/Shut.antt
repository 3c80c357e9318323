-- The set of demands that is kept: it exceeds its supplies by as many as are left out.
use Rattle.std.proofs.Common.{ℕ, ◌+◌, ◌-◌, ◌*◌, ◌<◌, ◌≤◌, ◌≡◌, ◌≢◌, Bool, true, List, length, Option, Some, get_or, sym}
use Rattle.std.proofs.Common.{ap, ◌∙◌, arith, ltb, length-set}
use Rattle.std.proofs.lemmas.Bool.{and_parts, and_from, ltb-true, lt-ltb}
use Rattle.demand_matching.specs.declared.domains.Domain.{Domain}
use Rattle.demand_matching.specs.declared.table.Table.{Table}
use Rattle.demand_matching.specs.declared.order.Order.{Order}
use Rattle.demand_matching.specs.Domains.{is_present, with_domain}
use Rattle.demand_matching.specs.Excess.{size_of, neighbours_of}
use Rattle.demand_matching.specs.Listing.{IsListing}
use Rattle.demand_matching.specs.Matched.{IsShut, IsMaximum}
use Rattle.demand_matching.specs.Order.{IsOrder, HasSameFirst, is_first}
use Rattle.demand_matching.specs.Reach.{IsInAll}
use Rattle.demand_matching.specs.Table.{domains_of, may_take, supply_of, owner_of, demands_in, IsTable}
use Rattle.demand_matching.proofs.Fences.{owner_below}
use Rattle.demand_matching.proofs.Maxima.{saturated_exceeds, exceeds_saturated, other_may, other_present}

-- the first demands of an order as a set
abbrev pub firsts : Table → List ℕ → ℕ → ℕ → Bool
firsts t spots met d = is_first spots met (demands_in t) d

pub firsts_in : (t : Table) (spots : List ℕ) (met d : ℕ) → d < demands_in t → get_or spots d 0 < met
    → firsts t spots met d ≡ true
firsts_in t spots met d l h = and_from (ltb d (demands_in t)) (ltb (get_or spots d 0) met) (lt-ltb d (demands_in t) l)
    (lt-ltb (get_or spots d 0) met h)

pub firsts_out : (t : Table) (spots : List ℕ) (met d : ℕ) → firsts t spots met d ≡ true
    → (d < demands_in t) × (get_or spots d 0 < met)
firsts_out t spots met d h =
    let a = and_parts (ltb d (demands_in t)) (ltb (get_or spots d 0) met) h in
    (ltb-true d (demands_in t) a.0, ltb-true (get_or spots d 0) met a.1)

pub shut_exceeds : (t : Table) (o : Order) (left met : ℕ) → IsMaximum t o left met
    → neighbours_of (domains_of t) (firsts t o.spots.items met) + left ≤ size_of (domains_of t)
    (firsts t o.spots.items met)
shut_exceeds t o left met max =
    saturated_exceeds t o left max.table max.listing (firsts t o.spots.items met)
    (λ d l p n. let low : get_or o.spots.items d 0 < left = max.listing.listed d l p n in
    firsts_in t o.spots.items met d l (omega (arith, max.longer)))
    (λ d s l h below may.
    let r = max.shut.saturated d s l (firsts_out t o.spots.items met d h).1 below may in
    (r.by, r.owner, firsts_in t o.spots.items met r.by (owner_below t s r.by max.table r.owner) r.within))

-- a demand that is in all sets that have those left out and all their supplies is in the set that is kept
pub kept_of : (t : Table) (o : Order) (left met d : ℕ) → IsMaximum t o left met → IsInAll t d
    → firsts t o.spots.items met d ≡ true
kept_of t o left met d max all =
    all (firsts t o.spots.items met)
    (λ e k p n. let low : get_or o.spots.items e 0 < left = max.listing.listed e k p n in
    firsts_in t o.spots.items met e k (omega (arith, max.longer)))
    (λ e u k x b m.
    let r = max.shut.saturated e u k (firsts_out t o.spots.items met e x).1 b m in
    (r.by, r.owner, firsts_in t o.spots.items met r.by (owner_below t u r.by max.table r.owner) r.within))

-- a set that exceeds its supplies by as many as are left out has all that it may have
pub exceeding_shut : (t : Table) (o : Order) (left met : ℕ) (set : ℕ → Bool) → IsTable t → IsListing t o left
    → neighbours_of (domains_of t) set + left ≤ size_of (domains_of t) set
    → ((e : ℕ) → e < demands_in t → get_or o.spots.items e 0 < met → set e ≡ true)
    → ((e : ℕ) → e < demands_in t → set e ≡ true → get_or o.spots.items e 0 < met)
    → met ≤ demands_in t → ((e : ℕ) → e < demands_in t → get_or o.spots.items e 0 < met
    → is_present (domains_of t) e ≡ true) → IsShut t o.spots.items met
exceeding_shut t o left met set is listing much into out fits there = record {
  fits = fits;
  present = there;
  saturated = λ e s l h below may.
      let r = exceeds_saturated t o left is listing set much e s l (into e l h) below may in
      record { by = r.0; owner = r.1; within = out r.0 (owner_below t s r.0 is r.1) r.2 };
}

-- the number of demands stays
pub same_count : (t t' : Table) (d : ℕ) (x : Option Domain) → domains_of t' ≡ with_domain (domains_of t) d x
    → demands_in t' ≡ demands_in t
same_count t t' d x same = ap (λ w. length w.demands) same ∙ length-set t.demands.items d x

pub same_may : (t t' : Table) (d e s : ℕ) (x : Option Domain) → domains_of t' ≡ with_domain (domains_of t) d x → e ≢ d
    → may_take (domains_of t') e s ≡ may_take (domains_of t) e s
same_may t t' d e s x same ne = ap (λ w. may_take w e s) same ∙ other_may (domains_of t) d e s x ne

pub same_present : (t t' : Table) (d e : ℕ) (x : Option Domain) → domains_of t' ≡ with_domain (domains_of t) d x → e ≢ d
    → is_present (domains_of t') e ≡ is_present (domains_of t) e
same_present t t' d e x same ne = ap (λ w. is_present w e) same ∙ other_present (domains_of t) d e x ne

-- where a demand changes that gives the set none of its supplies, the set without it stays shut
pub shut_without : (t t' : Table) (spots spots' : List ℕ) (d met met' : ℕ) (x : Option Domain) → IsTable t → IsTable t'
    → IsShut t spots met → domains_of t' ≡ with_domain (domains_of t) d x
    → ((e : ℕ) → e ≢ d → supply_of t' e ≡ supply_of t e)
    → met' ≤ demands_in t → ((e : ℕ) → e < demands_in t → e ≢ d → get_or spots e 0 < met → get_or spots' e 0 < met')
    → ((e : ℕ) → e < demands_in t → get_or spots' e 0 < met' → (e ≢ d) × (get_or spots e 0 < met))
    → ((s : ℕ) → owner_of t s ≡ Some d → get_or spots d 0 < met → ⊥) → IsShut t' spots' met'
shut_without t t' spots spots' d met met' x is is' shut same others fits into back apart =
    let n : demands_in t' ≡ demands_in t = same_count t t' d x same in
    record {
      fits = omega (arith, n);
      present = λ e l h. let a = back e (omega (arith, n)) h in
          same_present t t' d e x same a.0 ∙ shut.present e (omega (arith, n)) a.1;
      saturated = λ e s l h below may.
          let a = back e (omega (arith, n)) h in
          let r = shut.saturated e s (omega (arith, n)) a.1 (omega (arith, ap (λ w. w.width * w.last) same))
          (sym (same_may t t' d e s x same a.0) ∙ may) in
          let ne : r.by ≢ d = λ z. apart s (r.owner ∙ ap Some z)
          (omega (arith, ap (λ v. get_or spots v 0) z, r.within)) in
          record {
            by = r.by;
            owner = is'.matching.owned r.by s (others r.by ne ∙ is.matching.holds s r.by r.owner);
            within = into r.by (owner_below t s r.by is r.owner) ne r.within;
          };
    }

-- a set without the demand that went to its last place
pub last_into : (n : ℕ) (order' spots spots' : List ℕ) (d met e : ℕ) → IsOrder n order' spots'
    → HasSameFirst n spots spots' met → get_or spots' d 0 ≡ met - 1 → d < n → e < n → e ≢ d → get_or spots e 0 < met
    → get_or spots' e 0 < met - 1
last_into n order' spots spots' d met e is same at m l ne h =
    let low : get_or spots' e 0 < met = same.into e l h in
    let apart : get_or spots' e 0 ≡ met - 1 → ⊥ =
    λ z. ne (sym (is.order_spot e l) ∙ ap (λ v. get_or order' v 0) (z ∙ sym at) ∙ is.order_spot d m) in
    omega arith

pub last_back : (n : ℕ) (spots spots' : List ℕ) (d met e : ℕ) → HasSameFirst n spots spots' met
    → get_or spots' d 0 ≡ met - 1 → e < n → get_or spots' e 0 < met - 1 → (e ≢ d) × (get_or spots e 0 < met)
last_back n spots spots' d met e same at l h =
    ((λ z. absurd (omega (arith, ap (λ v. get_or spots' v 0) z))), same.back e l (omega arith))
