-- Sets that are made number by number.
use Rattle.std.proofs.Common.{ℕ, zero, suc, ◌+◌, ◌<◌, ◌≤◌, ◌≡◌, inl, inr, Bool, true, false, List, length, get_or}
use Rattle.std.proofs.Common.{replicate, set, ◌||◌, refl, sym, ap, ◌∙◌, arith}
use Rattle.std.specs.Prelude.{◌==◌}
use Rattle.std.proofs.lemmas.Bool.{cases_lt, eq-eqb, ne_eqb, or_right}
use Rattle.std.proofs.lemmas.List.{get_or-set_same, get_or-set_other}
use Rattle.std.proofs.Math.ListN.{get_or-eq_default}
use Rattle.khe_base.specs.IdSet.{has_member, no_members, with_member}
use Rattle.demand_matching.proofs.Counting.{cases_eqb}

-- the set has the numbers below a bound that pass a test
pub record IsUpTo (test : ℕ → Bool) (n : ℕ) (xs : List Bool) : Type 0 where
  pub below : (m : ℕ) → m < n → has_member xs m ≡ test m
  pub above : (m : ℕ) → n ≤ m → has_member xs m ≡ false

pub upto_none : (test : ℕ → Bool) (size : ℕ) → IsUpTo test 0 (no_members size)
upto_none test size = record { below = λ m l. absurd (omega (arith, l)); above = λ m l. nothing size m }
  where
    nothing : (n k : ℕ) → get_or (replicate n false) k false ≡ false
    nothing zero k = refl
    nothing (suc n) zero = refl
    nothing (suc n) (suc k) = nothing n k

pub upto_with : (test : ℕ → Bool) (n : ℕ) (xs : List Bool) → IsUpTo test n xs → n < length xs → test n ≡ true
    → IsUpTo test (n + 1) (with_member xs n)
upto_with test n xs is room t = record {
  below = λ m l. elim (cases_eqb m n) [
    | inl eq ↦ ap (λ k. get_or (set xs n true) k false) eq ∙ get_or-set_same xs n true false room ∙ sym t
        ∙ ap test (sym eq)
    | inr ne ↦ get_or-set_other xs n m true false ne ∙ is.below m (omega (arith, l, ne))
  ];
  above = λ m l. get_or-set_other xs n m true false (λ eq. absurd (omega (arith, l, eq)))
      ∙ is.above m (omega (arith, l));
}

pub upto_without : (test : ℕ → Bool) (n : ℕ) (xs : List Bool) → IsUpTo test n xs → test n ≡ false
    → IsUpTo test (n + 1) xs
upto_without test n xs is t = record {
  below = λ m l. elim (cases_eqb m n) [
    | inl eq ↦ ap (has_member xs) eq ∙ is.above n (omega arith) ∙ sym t ∙ ap test (sym eq)
    | inr ne ↦ is.below m (omega (arith, l, ne))
  ];
  above = λ m l. is.above m (omega (arith, l));
}

-- where no number from the bound on passes, the members are those that pass
pub upto_all : (test : ℕ → Bool) (n : ℕ) (xs : List Bool) → IsUpTo test n xs → ((m : ℕ) → n ≤ m → test m ≡ false)
    → (m : ℕ) → has_member xs m ≡ test m
upto_all test n xs is none m =
    elim (cases_lt m n) [
      | inl l ↦ is.below m l
      | inr l ↦ is.above m l ∙ sym (none m l)
    ]

-- no number from the size on is a member
pub beyond : (xs : List Bool) (m : ℕ) → length xs ≤ m → has_member xs m ≡ false
beyond xs m l = get_or-eq_default xs false l

-- one more number is marked
pub marked_more : (xs : List Bool) (n m : ℕ) → n < length xs
    → has_member (with_member xs n) m ≡ has_member xs m || (n == m)
marked_more xs n m l =
    elim (cases_eqb m n) [
      | inl eq ↦ ap (λ k. get_or (set xs n true) k false) eq ∙ get_or-set_same xs n true false l
          ∙ sym (or_right (has_member xs m) (n == m) (eq-eqb n m (sym eq)))
      | inr ne ↦ get_or-set_other xs n m true false ne
          ∙ sym (or_none (has_member xs m) (n == m) (ne_eqb n m (λ e. absurd (omega (arith, e, ne)))))
    ]
  where
    or_none : (a b : Bool) → b ≡ false → a || b ≡ a
    or_none true b h = refl
    or_none false b h = h
