-- Laws on how far numbers lie outside bounds.
use Rattle.std.proofs.Common.{ℕ, zero, suc, pos, negsuc, ◌≡◌, ◌+◌, ◌-◌, ◌≤◌, ◌<◌, ◌∙◌, ◌⊎◌, inl, inr, Bool, true, false}
use Rattle.std.proofs.Common.{cond, nat_lt, sym, ap, arith, lt-ltb, le-ltb}
use Rattle.std.specs.Prelude.{◌-ℤ◌, unsigned_abs, if◌then◌else◌}
use Rattle.std.proofs.lemmas.Bool.{cases_lt}
use Rattle.khe_base.specs.Bounds.{count_outside}

-- how far a count is above one that is no greater
apart : (a b : ℕ) → b ≤ a → unsigned_abs (pos a -ℤ pos b) ≡ a - b
apart a zero h = let z : a + 0 ≡ a - 0 = omega arith in z
apart a (suc b) h = ap (λ c. unsigned_abs (cond c (negsuc (suc b - suc a)) (pos (a - suc b)))) (le-ltb a (suc b) h)

-- a count is below the least, or else above the greatest, by so much
pub count_outside_is : (n least greatest : ℕ)
    → count_outside n least greatest ≡ (if nat_lt n least then least - n else n - greatest)
count_outside_is n least greatest = by (cases_lt n least) (cases_lt greatest n)
  where
    above : (greatest < n) ⊎ (n ≤ greatest) → cond (nat_lt greatest n) (unsigned_abs (pos n -ℤ pos greatest)) 0
        ≡ n - greatest
    above (inl h) = ap (λ b. cond b (unsigned_abs (pos n -ℤ pos greatest)) 0) (lt-ltb greatest n h)
        ∙ apart n greatest (omega arith)
    above (inr h) = ap (λ b. cond b (unsigned_abs (pos n -ℤ pos greatest)) 0) (le-ltb greatest n h)
        ∙ (let z : 0 ≡ n - greatest = omega arith in z)

    by : (n < least) ⊎ (least ≤ n) → (greatest < n) ⊎ (n ≤ greatest)
        → count_outside n least greatest ≡ cond (nat_lt n least) (least - n) (n - greatest)
    by (inl h) g =
        ap (λ b. cond b (unsigned_abs (pos least -ℤ pos n))
        (cond (nat_lt greatest n) (unsigned_abs (pos n -ℤ pos greatest)) 0)) (lt-ltb n least h)
        ∙ apart least n (omega arith) ∙ sym (ap (λ b. cond b (least - n) (n - greatest)) (lt-ltb n least h))
    by (inr h) g =
        ap (λ b. cond b (unsigned_abs (pos least -ℤ pos n))
        (cond (nat_lt greatest n) (unsigned_abs (pos n -ℤ pos greatest)) 0)) (le-ltb n least h)
        ∙ above g ∙ sym (ap (λ b. cond b (least - n) (n - greatest)) (le-ltb n least h))

-- it is no further than to the least, or to 0
pub count_outside_small : (n least greatest : ℕ) → count_outside n least greatest ≤ n + least
count_outside_small n least greatest = by (nat_lt n least) (count_outside_is n least greatest)
  where
    by : (b : Bool) → count_outside n least greatest ≡ cond b (least - n) (n - greatest)
        → count_outside n least greatest ≤ n + least
    by true e = omega (arith, e)
    by false e = omega (arith, e)
