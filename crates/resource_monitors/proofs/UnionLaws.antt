-- The times that one of several sets has, as one set that is made time by time.
use Rattle.std.proofs.Common.{ℕ, zero, suc, ◌+◌, ◌<◌, ◌≤◌, ◌≡◌, ◌∙◌, Bool, true, false, cond, List, length, get_or, set}
use Rattle.std.proofs.Common.{take, replicate, nat_lt, sum_by, inl, inr, refl, sym, ap, arith}
use Rattle.std.proofs.Common.{get_or-set_same, get_or-set_other}
use Rattle.std.proofs.lemmas.Bool.{cases_lt, cases_eq}
use Rattle.std.proofs.lemmas.List.Sums.{sum_by_more}
use Rattle.std.proofs.Math.ListN.{get_or-eq_default}
use Rattle.khe_base.specs.IdSet.{has_member, no_members, with_member}
use Rattle.resource_monitors.specs.Sets.{has_time}

-- the set has the times below a bound that pass a test
pub record IsUpTo (test : ℕ → Bool) (n : ℕ) (times : List Bool) : Type 0 where
  pub below : (t : ℕ) → t < n → has_member times t ≡ test t
  pub above : (t : ℕ) → n ≤ t → has_member times t ≡ false

pub up_to_none : (test : ℕ → Bool) (size : ℕ) → IsUpTo test 0 (no_members size)
up_to_none test size = record { below = λ t l. absurd (omega (arith, l)); above = λ t l. nothing size t }
  where
    nothing : (n k : ℕ) → get_or (replicate n false) k false ≡ false
    nothing zero k = refl
    nothing (suc n) zero = refl
    nothing (suc n) (suc k) = nothing n k

pub up_to_with : (test : ℕ → Bool) (n : ℕ) (times : List Bool) → IsUpTo test n times → n < length times → test n ≡ true
    → IsUpTo test (n + 1) (with_member times n)
up_to_with test n times is room h = record {
  below = λ t l. elim (cases_eq t n) [
    | inl eq ↦ ap (λ k. get_or (set times n true) k false) eq ∙ get_or-set_same times n true false room ∙ sym h
        ∙ ap test (sym eq)
    | inr ne ↦ get_or-set_other times n t true false ne ∙ is.below t (omega (arith, l, ne))
  ];
  above = λ t l. get_or-set_other times n t true false (λ eq. absurd (omega (arith, l, eq)))
      ∙ is.above t (omega (arith, l));
}

pub up_to_without : (test : ℕ → Bool) (n : ℕ) (times : List Bool) → IsUpTo test n times → test n ≡ false
    → IsUpTo test (n + 1) times
up_to_without test n times is h = record {
  below = λ t l. elim (cases_eq t n) [
    | inl eq ↦ ap (has_member times) eq ∙ is.above n (omega arith) ∙ sym h ∙ ap test (sym eq)
    | inr ne ↦ is.below t (omega (arith, l, ne))
  ];
  above = λ t l. is.above t (omega (arith, l));
}

-- where no time from the bound on passes, the members are those that pass
pub up_to_all : (test : ℕ → Bool) (n : ℕ) (times : List Bool) → IsUpTo test n times
    → ((t : ℕ) → n ≤ t → test t ≡ false) → (t : ℕ) → has_member times t ≡ test t
up_to_all test n times is none t =
    elim (cases_lt t n) [
      | inl l ↦ is.below t l
      | inr l ↦ is.above t l ∙ sym (none t l)
    ]

-- one more set has no time from its size on
pub none_more : (sets : List (List Bool)) (i size : ℕ) (x : List Bool) → i < length sets → x ≡ get_or sets i x
    → length x ≤ size → ((t : ℕ) → size ≤ t → has_time (take i sets) t ≡ false) → (t : ℕ) → size ≤ t
    → has_time (take (i + 1) sets) t ≡ false
none_more sets i size x l is short none t h =
    let f : List Bool → ℕ = λ g. cond {A = ℕ} (has_member g t) 1 0 in
    let beyond : f (get_or sets i x) ≡ 0 = ap f (sym is)
    ∙ ap (λ b. cond {A = ℕ} b 1 0) (get_or-eq_default x false (omega (arith, short, h))) in
    let more = sum_by_more f sets i x l in
    let same : sum_by f (take (i + 1) sets) ≡ sum_by f (take i sets) = omega (arith, more, beyond) in
    ap (nat_lt 0) same ∙ none t h
