-- The numbers of a range that pass a test.
use Rattle.std.specs.Prelude.{ℕ, ◌+◌, ◌-◌, ◌≡◌, ◌≤◌, ◌<◌, Bool, true, false, Option, Some, None, List, [], ◌∷◌}
use Rattle.std.specs.Prelude.{MatchOption}
use Rattle.std.specs.List.{filter, range_with_len}

-- from a number on, below another
unfoldable pub picked : (ℕ → Bool) → ℕ → ℕ → List ℕ
picked test from to = filter test (range_with_len from (to - from))

-- the first of them, and those after it
abbrev pub IsNextPicked : (ℕ → Bool) → ℕ → ℕ → Option ℕ → Type 0
IsNextPicked test from to None = picked test from to ≡ []
IsNextPicked test from to (Some n) = picked test from to ≡ n ∷ picked test (n + 1) to

-- no number of a range passes; and the first that does
abbrev pub NonePass : (ℕ → Bool) → ℕ → ℕ → Type 0
NonePass test from to = (k : ℕ) → from ≤ k → k < to → test k ≡ false

abbrev pub IsFirst : (ℕ → Bool) → ℕ → ℕ → Option ℕ → Type 0
IsFirst test from to result = MatchOption result (NonePass test from to)
    (λ n. (from ≤ n) × (n < to) × (test n ≡ true) × NonePass test from n)
