-- A matching with n left out has a set whose excess is that, or can be made larger: the
-- numbers of demands and supplies, over plain functions.
use Rattle.std.proofs.Common.{ℕ, suc, ◌+◌, ◌<◌, ◌≤◌, ◌≡◌, Bool, true, false, ◌&&◌, not, eqb, refl, sym, ◌∙◌, arith, inl}
use Rattle.std.proofs.Common.{inr, Option, Some, None}
use Rattle.std.specs.Prelude.{is_none}
use Rattle.std.proofs.lemmas.Bool.{cases_Bool, cases_lt, and_parts, and_from, eqb-false, ne_eqb, not_from_false}
use Rattle.std.proofs.lemmas.Bool.{not-true, false≢true, true≢false}
use Rattle.demand_matching.specs.Counts.{count_below, any_below}
use Rattle.demand_matching.specs.Assigned.{IsMatching, IsSaturated}
use Rattle.demand_matching.proofs.Counting.{count_subset, count_full, count_split, count_without, count_partners}
use Rattle.demand_matching.proofs.Counting.{any_at, any_from}

-- how many demands of a set are there
abbrev pub size : ℕ → (ℕ → Bool) → (ℕ → Bool) → ℕ
size n present set = count_below n (λ d. present d && set d)

-- whether a demand of the set may have the supply
abbrev pub reaches : ℕ → (ℕ → ℕ → Bool) → (ℕ → Bool) → ℕ → Bool
reaches n may set s = any_below n (λ d. set d && may d s)

-- how many supplies the set may have
abbrev pub neighbours : ℕ → ℕ → (ℕ → ℕ → Bool) → (ℕ → Bool) → ℕ
neighbours n m may set = count_below m (reaches n may set)

-- how many demands are there and have no supply
abbrev pub left_out : ℕ → (ℕ → Bool) → (ℕ → Option ℕ) → ℕ
left_out n present gets = count_below n (λ d. present d && is_none (gets d))

-- the set has all that are left out
abbrev pub HasLeftOut : ℕ → (ℕ → Bool) → (ℕ → Option ℕ) → (ℕ → Bool) → Type 0
HasLeftOut n present gets set = (d : ℕ) → d < n → present d ≡ true → gets d ≡ None → set d ≡ true

-- demands that may have a supply are there
abbrev pub IsThere : (ℕ → Bool) → (ℕ → ℕ → Bool) → Type 0
IsThere present may = (d s : ℕ) → may d s ≡ true → present d ≡ true

pub some_not_none : (o : Option ℕ) (s : ℕ) → o ≡ Some s → is_none o ≡ false
some_not_none o s e = rw e refl

pub none_is : (o : Option ℕ) → is_none o ≡ true → o ≡ None
none_is o h = elim o as (λ v. is_none v ≡ true → v ≡ None) [ None ↦ λ _. refl | Some x ↦ λ e. absurd (false≢true e) ] h

pub none_from : (o : Option ℕ) → o ≡ None → is_none o ≡ true
none_from o e = rw e refl

pub some_is : (o : Option ℕ) → is_none o ≡ false → (s : ℕ) × (o ≡ Some s)
some_is o h = elim o as (λ v. is_none v ≡ false → (s : ℕ) × (v ≡ Some s))
    [ None ↦ λ e. absurd (true≢false e) | Some x ↦ λ _. (x, refl) ] h

pub same_some : (a b : ℕ) → (o : Option ℕ) → o ≡ Some a → o ≡ Some b → a ≡ b
same_some a b o p q = cc

-- the members of a set that have no supply, and those that have one
abbrev pub members_left : ℕ → (ℕ → Bool) → (ℕ → Option ℕ) → (ℕ → Bool) → ℕ
members_left n present gets set = count_below n (λ d. (present d && set d) && is_none (gets d))

abbrev pub members_served : ℕ → (ℕ → Bool) → (ℕ → Option ℕ) → (ℕ → Bool) → ℕ
members_served n present gets set = count_below n (λ d. (present d && set d) && not (is_none (gets d)))

pub size_parts : (n : ℕ) (present : ℕ → Bool) (gets : ℕ → Option ℕ) (set : ℕ → Bool)
    → size n present set ≡ members_left n present gets set + members_served n present gets set
size_parts n present gets set = count_split n (λ d. present d && set d) (λ d. is_none (gets d))

pub left_le : (n : ℕ) (present : ℕ → Bool) (gets : ℕ → Option ℕ) (set : ℕ → Bool)
    → members_left n present gets set ≤ left_out n present gets
left_le n present gets set =
    count_subset n (λ d. (present d && set d) && is_none (gets d)) (λ d. present d && is_none (gets d)) (λ d l h.
    let a = and_parts (present d && set d) (is_none (gets d)) h in
    and_from (present d) (is_none (gets d)) (and_parts (present d) (set d) a.0).0 a.1)

-- no set exceeds its supplies by more than any matching leaves out
pub size_le : (n m : ℕ) (present : ℕ → Bool) (may : ℕ → ℕ → Bool) (gets owner : ℕ → Option ℕ)
    → IsMatching n m may gets owner → (set : ℕ → Bool)
    → size n present set ≤ neighbours n m may set + left_out n present gets
size_le n m present may gets owner is set =
    let served : members_served n present gets set ≤ neighbours n m may set =
    count_partners n m (λ d. (present d && set d) && not (is_none (gets d))) (reaches n may set)
    (λ d s. gets d ≡ Some s) (λ d l h.
    let a = and_parts (present d && set d) (not (is_none (gets d))) h in
    let at = some_is (gets d) (not-true (is_none (gets d)) a.1) in (
      at.0,
      is.supply d at.0 at.1,
      any_from n (λ d. set d && may d at.0) d l
          (and_from (set d) (may d at.0) (and_parts (present d) (set d) a.0).1 (is.allowed d at.0 at.1)),
      at.1,
    ))
    (λ j k s p q. same_some j k (owner s) (is.owned j s p) (is.owned k s q)) in
    omega (arith, size_parts n present gets set, left_le n present gets set, served)

-- a set that has all that are left out, and whose supplies are all those of its members, exceeds them by as many
pub saturated_size : (n m : ℕ) (present : ℕ → Bool) (may : ℕ → ℕ → Bool) (gets owner : ℕ → Option ℕ)
    → IsMatching n m may gets owner → IsThere present may → (set : ℕ → Bool) → HasLeftOut n present gets set
    → IsSaturated n m may owner set → neighbours n m may set + left_out n present gets ≤ size n present set
saturated_size n m present may gets owner is there set has full =
    let lefts : left_out n present gets ≤ members_left n present gets set =
    count_subset n (λ d. present d && is_none (gets d)) (λ d. (present d && set d) && is_none (gets d)) (λ d l h.
    let a = and_parts (present d) (is_none (gets d)) h in
    and_from (present d && set d) (is_none (gets d))
    (and_from (present d) (set d) a.0 (has d l a.0 (none_is (gets d) a.1))) a.1) in
    let served : neighbours n m may set ≤ members_served n present gets set =
    count_partners m n (reaches n may set) (λ d. (present d && set d) && not (is_none (gets d)))
    (λ s d. owner s ≡ Some d) (λ s l h.
    let at = any_at n (λ d. set d && may d s) h in
    let a = and_parts (set at.0) (may at.0 s) at.2 in
    let by = full at.0 s at.1 a.0 l a.1 in
    let its : gets by.0 ≡ Some s = is.holds s by.0 by.1 in (
      by.0,
      is.demand by.0 s its,
      and_from (present by.0 && set by.0) (not (is_none (gets by.0)))
          (and_from (present by.0) (set by.0) (there by.0 s (is.allowed by.0 s its)) by.2)
          (not_from_false (is_none (gets by.0)) (some_not_none (gets by.0) s its)),
      by.1,
    ))
    (λ j k d p q. same_some j k (gets d) (is.holds j d p) (is.holds k d q)) in
    omega (arith, size_parts n present gets set, lefts, served)

-- whether a supply is that of a member
abbrev pub is_members : (ℕ → Bool) → Option ℕ → Bool
is_members set None = false
is_members set (Some e) = set e

members_at : (set : ℕ → Bool) (o : Option ℕ) → is_members set o ≡ true → (e : ℕ) × (o ≡ Some e) × (set e ≡ true)
members_at set o h = elim o as (λ v. is_members set v ≡ true → (e : ℕ) × (v ≡ Some e) × (set e ≡ true))
    [ None ↦ λ e. absurd (false≢true e) | Some x ↦ λ e. (x, refl, e) ] h

members_from : (set : ℕ → Bool) (o : Option ℕ) (e : ℕ) → o ≡ Some e → set e ≡ true → is_members set o ≡ true
members_from set o e p h = rw p h

-- a set that exceeds its supplies by as many as a matching leaves out has all of these
pub exceeding_left : (n m : ℕ) (present : ℕ → Bool) (may : ℕ → ℕ → Bool) (gets owner : ℕ → Option ℕ)
    → IsMatching n m may gets owner → (set : ℕ → Bool)
    → neighbours n m may set + left_out n present gets ≤ size n present set → HasLeftOut n present gets set
exceeding_left n m present may gets owner is set much d l there free =
    let served : members_served n present gets set ≤ neighbours n m may set =
    count_partners n m (λ d. (present d && set d) && not (is_none (gets d))) (reaches n may set)
    (λ d s. gets d ≡ Some s) (λ d l h.
    let a = and_parts (present d && set d) (not (is_none (gets d))) h in
    let at = some_is (gets d) (not-true (is_none (gets d)) a.1) in (
      at.0,
      is.supply d at.0 at.1,
      any_from n (λ d. set d && may d at.0) d l
          (and_from (set d) (may d at.0) (and_parts (present d) (set d) a.0).1 (is.allowed d at.0 at.1)),
      at.1,
    ))
    (λ j k s p q. same_some j k (owner s) (is.owned j s p) (is.owned k s q)) in
    let all : left_out n present gets ≤ members_left n present gets set =
    omega (arith, size_parts n present gets set, served, much) in
    let it : ((present d && set d) && is_none (gets d)) ≡ true =
    count_full n (λ d. (present d && set d) && is_none (gets d)) (λ d. present d && is_none (gets d)) (λ d l h.
    let a = and_parts (present d && set d) (is_none (gets d)) h in
    and_from (present d) (is_none (gets d)) (and_parts (present d) (set d) a.0).0 a.1)
    all d l (and_from (present d) (is_none (gets d)) there (none_from (gets d) free)) in
    (and_parts (present d) (set d) (and_parts (present d && set d) (is_none (gets d)) it).0).1

-- and each of its supplies is that of a member
pub exceeding_saturated : (n m : ℕ) (present : ℕ → Bool) (may : ℕ → ℕ → Bool) (gets owner : ℕ → Option ℕ)
    → IsMatching n m may gets owner → (set : ℕ → Bool)
    → neighbours n m may set + left_out n present gets ≤ size n present set → IsSaturated n m may owner set
exceeding_saturated n m present may gets owner is set much d s l h below allowed =
    let both : ℕ → Bool = λ s. reaches n may set s && is_members set (owner s) in
    let served : members_served n present gets set ≤ count_below m both =
    count_partners n m (λ d. (present d && set d) && not (is_none (gets d))) both (λ d s. gets d ≡ Some s) (λ d l h.
    let a = and_parts (present d && set d) (not (is_none (gets d))) h in
    let at = some_is (gets d) (not-true (is_none (gets d)) a.1) in
    let mine : set d ≡ true = (and_parts (present d) (set d) a.0).1 in (
      at.0,
      is.supply d at.0 at.1,
      and_from (reaches n may set at.0) (is_members set (owner at.0))
          (any_from n (λ d. set d && may d at.0) d l (and_from (set d) (may d at.0) mine (is.allowed d at.0 at.1)))
          (members_from set (owner at.0) d (is.owned d at.0 at.1) mine),
      at.1,
    ))
    (λ j k s p q. same_some j k (owner s) (is.owned j s p) (is.owned k s q)) in
    let all : neighbours n m may set ≤ count_below m both =
    omega (arith, size_parts n present gets set, left_le n present gets set, served, much) in
    let it : both s ≡ true =
    count_full m both (reaches n may set) (λ s l h. (and_parts (reaches n may set s) (is_members set (owner s)) h).0)
    all s below
    (any_from n (λ d. set d && may d s) d l (and_from (set d) (may d s) h allowed)) in
    members_at set (owner s) (and_parts (reaches n may set s) (is_members set (owner s)) it).1

-- the set without one demand
abbrev pub without : (ℕ → Bool) → ℕ → ℕ → Bool
without set d e = set e && not (eqb e d)

-- where only what one demand may have changes, the others reach no more supplies
pub neighbours-without : (n m : ℕ) (may may' : ℕ → ℕ → Bool) (d : ℕ) → ((e s : ℕ) → (e ≡ d → ⊥) → may' e s ≡ may e s)
    → (set : ℕ → Bool) → neighbours n m may' (without set d) ≤ neighbours n m may set
neighbours-without n m may may' d same set =
    count_subset m (reaches n may' (without set d)) (reaches n may set) (λ s l h.
    let at = any_at n (λ e. without set d e && may' e s) h in
    let a = and_parts (without set d at.0) (may' at.0 s) at.2 in
    let b = and_parts (set at.0) (not (eqb at.0 d)) a.0 in
    any_from n (λ e. set e && may e s) at.0 at.1 (and_from (set at.0) (may at.0 s) b.0
    (sym (same at.0 s (eqb-false at.0 d (not-true (eqb at.0 d) b.1))) ∙ a.1)))

without_same : (n : ℕ) (present present' : ℕ → Bool) (d : ℕ) → ((e : ℕ) → (e ≡ d → ⊥) → present' e ≡ present e)
    → (set : ℕ → Bool) → (e : ℕ) → (present e && set e) && not (eqb e d) ≡ true → present' e && without set d e ≡ true
without_same n present present' d same set e h =
    let a = and_parts (present e && set e) (not (eqb e d)) h in
    let b = and_parts (present e) (set e) a.0 in
    and_from (present' e) (without set d e) (same e (eqb-false e d (not-true (eqb e d) a.1)) ∙ b.0)
    (and_from (set e) (not (eqb e d)) b.1 a.1)

-- and are fewer by one at most
pub size-without : (n : ℕ) (present present' : ℕ → Bool) (d : ℕ) → ((e : ℕ) → (e ≡ d → ⊥) → present' e ≡ present e)
    → (set : ℕ → Bool) → size n present set ≤ suc (size n present' (without set d))
size-without n present present' d same set =
    let p : ℕ → Bool = λ e. present e && set e in
    let less : ℕ → Bool = λ e. p e && not (eqb e d) in
    let low : count_below n less ≤ size n present' (without set d) =
    count_subset n less (λ e. present' e && without set d e)
    (λ e l h. without_same n present present' d same set e h) in
    elim (cases_lt d n) [
      | inl l ↦ elim (cases_Bool (p d)) [
        | inl t ↦ omega (arith, count_without n p d l t, low)
        | inr f ↦
            let all : size n present set ≤ count_below n less =
            count_subset n p less (λ e l h. and_from (p e) (not (eqb e d)) h
            (not_from_false (eqb e d) (ne_eqb e d (λ x. true≢false (sym h ∙ rw x f))))) in
            omega (arith, all, low)
      ]
      | inr g ↦
          let all : size n present set ≤ count_below n less =
          count_subset n p less (λ e l h. and_from (p e) (not (eqb e d)) h
          (not_from_false (eqb e d) (ne_eqb e d (λ x. absurd (omega arith))))) in
          omega (arith, all, low)
    ]

-- and as many where that demand was not there
pub size-without_absent : (n : ℕ) (present present' : ℕ → Bool) (d : ℕ)
    → ((e : ℕ) → (e ≡ d → ⊥) → present' e ≡ present e) → present d ≡ false → (set : ℕ → Bool)
    → size n present set ≤ size n present' (without set d)
size-without_absent n present present' d same gone set =
    count_subset n (λ e. present e && set e) (λ e. present' e && without set d e) (λ e l h.
    without_same n present present' d same set e (and_from (present e && set e) (not (eqb e d)) h
    (not_from_false (eqb e d) (ne_eqb e d (λ x. true≢false
    (sym (and_parts (present e) (set e) h).0 ∙ rw x gone))))))
