-- What is reached from the demands that are left out is the least set of the greatest excess.
use Rattle.std.proofs.Common.{ℕ, suc, ◌+◌, ◌<◌, ◌≤◌, ◌≡◌, Bool, true, List, [], ◌∷◌, length, get_or, sym, ap, ◌∙◌}
use Rattle.std.proofs.Common.{arith, inl, inr, eqb, Result, Ok, Err}
use Rattle.std.specs.Prelude.{IfOk}
use Rattle.std.specs.List.{list_any, range_with_len}
use Rattle.std.specs.List.Sorted.{IsStrictlyIncreasing}
use Rattle.std.proofs.lemmas.Bool.{or_cases, eqb-true, eq-eqb, false≢true}
use Rattle.std.proofs.lemmas.List.Folds.{list_any_at}
use Rattle.std.proofs.lemmas.List.FromFn.{length-range_with_len, get_or-range_with_len}
use Rattle.std.proofs.lemmas.List.Kept.{IsStrictlyIncreasing-filter}
use Rattle.khe_base.specs.IdSet.{has_member, members_of}
use Rattle.demand_matching.specs.declared.table.Table.{Table}
use Rattle.demand_matching.specs.declared.order.Order.{Order}
use Rattle.demand_matching.specs.Assigned.{IsSaturated}
use Rattle.demand_matching.specs.Domains.{is_present}
use Rattle.demand_matching.specs.Excess.{size_of, neighbours_of, IsHallSet}
use Rattle.demand_matching.specs.Matched.{IsMaximum}
use Rattle.demand_matching.specs.Reach.{IsInAll, IsReached}
use Rattle.demand_matching.specs.Table.{domains_of, may_take, supply_of, owner_of, demands_in, supplies_in}
use Rattle.demand_matching.proofs.Duality.{HasLeftOut}
use Rattle.demand_matching.proofs.Maxima.{bounded, saturated_exceeds, exceeds_left, exceeds_saturated}
use Rattle.demand_matching.proofs.Picks.{members_hit, members_found}
use Rattle.demand_matching.proofs.Shut.{kept_of, firsts_out}

-- a set that has all that are left out and all its supplies, and is in each such set, is the least
pub least_is : (t : Table) (o : Order) (left met : ℕ) (set : ℕ → Bool) → IsMaximum t o left met
    → ((d : ℕ) → set d ≡ true → is_present (domains_of t) d ≡ true) → ((d : ℕ) → set d ≡ true → IsInAll t d)
    → HasLeftOut (demands_in t) (is_present (domains_of t)) (supply_of t) set
    → IsSaturated (demands_in t) (supplies_in t) (may_take (domains_of t)) (owner_of t) set
    → IsHallSet (domains_of t) set
least_is t o left met set max there all has full =
    let much : neighbours_of (domains_of t) set + left ≤ size_of (domains_of t) set =
    saturated_exceeds t o left max.table max.listing set has full in
    record {
      present = there;
      greatest = λ other. omega (arith, bounded t o left max.table max.listing other, much);
      least = λ other great d h.
          let enough : neighbours_of (domains_of t) other + left ≤ size_of (domains_of t) other =
          omega (arith, great set, much) in
          all d h other (exceeds_left t o left max.table max.listing other enough)
          (exceeds_saturated t o left max.table max.listing other enough);
    }

any_index : (p : ℕ → Bool) (xs : List ℕ) → list_any p xs ≡ true → (i : ℕ) × (i < length xs) × (p (get_or xs i 0) ≡ true)
any_index p [] h = absurd (false≢true h)
any_index p (x ∷ xs) h = elim (or_cases (p x) (list_any p xs) h) [
  | inl a ↦ (0, omega arith, a)
  | inr b ↦ let it = any_index p xs b in (suc it.0, omega (arith, it.1), it.2)
]

-- a list of the members of a set has these
pub listed_marked : (marks : List Bool) (d : ℕ) → list_any (λ m. eqb m d) (members_of marks) ≡ true
    → has_member marks d ≡ true
listed_marked marks d h =
    let it = any_index (λ m. eqb m d) (members_of marks) h in
    ap (has_member marks) (sym (eqb-true (get_or (members_of marks) it.0 0) d it.2)) ∙ members_hit marks it.0 it.1

pub marked_listed : (marks : List Bool) (d : ℕ) → has_member marks d ≡ true
    → list_any (λ m. eqb m d) (members_of marks) ≡ true
marked_listed marks d h =
    let it = members_found marks d h in
    list_any_at (λ m. eqb m d) (members_of marks) it.0 0 it.1 (eq-eqb (get_or (members_of marks) it.0 0) d it.2)

pub members_ascend : (marks : List Bool) → IsStrictlyIncreasing (members_of marks)
members_ascend marks =
    let range : List ℕ = range_with_len 0 (length marks) in
    let len : length range ≡ length marks = length-range_with_len 0 (length marks) in
    IsStrictlyIncreasing-filter (has_member marks) range
    (λ k h. omega (
      arith,
      get_or-range_with_len 0 (length marks) k 0 (omega arith),
      get_or-range_with_len 0
          (length marks) (k + 1) 0 (omega arith),
    ))

-- the marks are such a set
pub hall_marked : (t : Table) (o : Order) (left met : ℕ) (marks : List Bool) → IsMaximum t o left met
    → IsReached t marks → IsHallSet (domains_of t) (has_member marks)
hall_marked t o left met marks max is =
    least_is t o left met (has_member marks) max is.there is.all is.left_out
    (λ d s l h below may.
    let inside = kept_of t o left met d max (is.all d h) in
    let r = max.shut.saturated d s l (firsts_out t o.spots.items met d inside).1 below may in
    (r.by, r.owner, is.owners d s r.by h may r.owner))

pub hall_is : (t : Table) (o : Order) (left met : ℕ) (marks : List Bool) → IsMaximum t o left met → IsReached t marks
    → IsHallSet (domains_of t) (λ d. list_any (λ m. eqb m d) (members_of marks))
hall_is t o left met marks max is =
    let set : ℕ → Bool = λ d. list_any (λ m. eqb m d) (members_of marks) in
    least_is t o left met set max (λ d h. is.there d (listed_marked marks d h))
    (λ d h. is.all d (listed_marked marks d h)) (λ d l p n. marked_listed marks d (is.left_out d l p n))
    (λ d s l h below may.
    let mark = listed_marked marks d h in
    let inside = kept_of t o left met d max (is.all d mark) in
    let r = max.shut.saturated d s l (firsts_out t o.spots.items met d inside).1 below may in
    (r.by, r.owner, marked_listed marks r.by (is.owners d s r.by mark may r.owner)))

-- where none is left out, it is empty
pub hall_empty : (t : Table) (o : Order) (met : ℕ) → IsMaximum t o 0 met
    → IsHallSet (domains_of t) (λ d. list_any (λ m. eqb m d) [])
hall_empty t o met max =
    least_is t o 0 met (λ d. list_any (λ m. eqb m d) []) max (λ d h. absurd (false≢true h))
    (λ d h. absurd (false≢true h))
    (λ d l p n. absurd (omega (arith, max.listing.listed d l p n))) (λ d s l h. absurd (false≢true h))

pub if_ok_map : {T E : Type 0} (r : Result T E) (P Q : T → Type 0) → ((x : T) → P x → Q x) → IfOk r P → IfOk r Q
if_ok_map (Ok x) P Q f h = f x h
if_ok_map (Err e) P Q f h = h
