-- The numbers of a range that pass a test, one after another.
use Rattle.std.proofs.Common.{ℕ, zero, suc, ◌≡◌, ◌+◌, ◌-◌, ◌<◌, ◌≤◌, Bool, true, false, cond, Option, Some, None, []}
use Rattle.std.proofs.Common.{◌∷◌, refl, ap, ◌∙◌, arith, inl, inr}
use Rattle.std.specs.List.{filter, range_with_len}
use Rattle.std.proofs.lemmas.Bool.{cases_lt}
use Rattle.repair_moves.specs.Picked.{IsFirst, IsNextPicked, NonePass, picked}

range_some : (from to : ℕ) → from < to → range_with_len from (to - from)
    ≡ from ∷ range_with_len (from + 1) (to - (from + 1))
range_some from to l = ap (range_with_len from) (let e : to - from ≡ suc (to - (from + 1)) = omega (arith, l) in e)

pub picked_none : (test : ℕ → Bool) (from to : ℕ) → to ≤ from → picked test from to ≡ []
unfolding picked
picked_none test from to l = ap (filter test) (ap (range_with_len from) (let e : to - from ≡ 0 = omega (arith, l) in e))

-- a number of the range is picked or is not
pub picked_step : (test : ℕ → Bool) (from to : ℕ) (b : Bool) → from < to → test from ≡ b
    → picked test from to ≡ cond b (from ∷ picked test (from + 1) to) (picked test (from + 1) to)
unfolding picked
picked_step test from to b l h =
    let rest = filter test (range_with_len (from + 1) (to - (from + 1))) in
    ap (filter test) (range_some from to l) ∙ ap (λ b. cond b (from ∷ rest) rest) h

-- past numbers that do not pass
jump : (test : ℕ → Bool) (gap from to : ℕ) → from + gap ≤ to → NonePass test from (from + gap)
    → picked test from to ≡ picked test (from + gap) to
jump test zero from to l none = ap (λ k. picked test k to) (let e : from ≡ from + 0 = omega arith in e)
jump test (suc gap) from to l none =
    let e : from + 1 + gap ≡ from + suc gap = omega arith in
    picked_step test from to false (omega (arith, l)) (none from (omega arith) (omega arith))
    ∙ jump test gap (from + 1) to (omega (arith, l)) (λ k a b. none k (omega (arith, a)) (omega (arith, b)))
    ∙ ap (λ k. picked test k to) e

-- the first number that passes is the first that is picked
pub first_picked : (test : ℕ → Bool) (from to : ℕ) (r : Option ℕ) → IsFirst test from to r → IsNextPicked test from to r
first_picked test from to None h = elim (cases_lt from to) [
  | inl l ↦
      let e : from + (to - from) ≡ to = omega (arith, l) in
      jump test (to - from) from to (omega (arith, l)) (λ k a b. h k a (omega (arith, b, l)))
      ∙ picked_none test (from + (to - from)) to (omega (arith, e))
  | inr g ↦ picked_none test from to g
]
first_picked test from to (Some n) h =
    let a = h.0 in
    let b = h.1 in
    let e : from + (n - from) ≡ n = omega (arith, a) in
    jump test (n - from) from to (omega (arith, a, b)) (λ k x y. h.3 k x (omega (arith, y, a)))
    ∙ ap (λ k. picked test k to) e ∙ picked_step test n to true b h.2

-- a test that cannot hold is false
pub false_unless : (b : Bool) → (b ≡ true → ⊥) → b ≡ false
false_unless true h = absurd (h refl)
false_unless false h = refl

-- one more number that does not pass
pub none_more : (test : ℕ → Bool) (from n : ℕ) → NonePass test from n → test n ≡ false → NonePass test from (n + 1)
none_more test from n h e k a b = elim (cases_lt k n) [
  | inl l ↦ h k a l
  | inr g ↦ let same : n ≡ k = omega (arith, g, b) in ap test (let back : k ≡ n = omega (arith, same) in back) ∙ e
]

-- numbers from another one on do not pass, either
pub none_on : (test : ℕ → Bool) (from n m : ℕ) → NonePass test from n → ((k : ℕ) → n ≤ k → k < m → test k ≡ false)
    → NonePass test from m
none_on test from n m h more k a b = elim (cases_lt k n) [
  | inl l ↦ h k a l
  | inr g ↦ more k g b
]
