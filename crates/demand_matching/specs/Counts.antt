-- How many numbers below a bound pass a test.
use Rattle.std.specs.Prelude.{ℕ, ◌+◌, zero, suc, Bool, false, ◌||◌, if◌then◌else◌}

-- how many of the numbers below n pass the test
unfoldable pub count_below : ℕ → (ℕ → Bool) → ℕ
count_below zero test = 0
count_below (suc n) test = (if test n then 1 else 0) + count_below n test

-- whether a number below n passes the test
unfoldable pub any_below : ℕ → (ℕ → Bool) → Bool
any_below zero test = false
any_below (suc n) test = test n || any_below n test

-- the sum of the values at the numbers below n
unfoldable pub sum_below : ℕ → (ℕ → ℕ) → ℕ
sum_below zero value = 0
sum_below (suc n) value = value n + sum_below n value
