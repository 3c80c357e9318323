-- How far a whole number, even a negative one, lies below the least or above the greatest of two bounds; and
-- the same for a count. Every kind with a minimum and a maximum is defined by it.
use Rattle.std.specs.Prelude.{ℕ, ℤ, pos, neg_ℤ, ◌-ℤ◌, ◌≤ℤ◌, int_lt, unsigned_abs, if◌then◌else◌}

-- below the least or above the greatest; the least comes first where it is above the greatest
abbrev pub outside : ℤ → ℤ → ℤ → ℕ
outside n least greatest =
    if int_lt n least then unsigned_abs (least -ℤ n)
    else if int_lt greatest n then unsigned_abs (n -ℤ greatest)
    else 0

-- the same of a count, which isn't below 0, and of such bounds
abbrev pub count_outside : ℕ → ℕ → ℕ → ℕ
count_outside n least greatest = outside (pos n) (pos least) (pos greatest)

-- between -10^12 and 10^12
abbrev pub IsNearZero : ℤ → Type 0
IsNearZero n = (neg_ℤ (pos 1000000000000) ≤ℤ n) × (n ≤ℤ pos 1000000000000)
