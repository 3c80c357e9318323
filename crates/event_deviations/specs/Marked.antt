-- Counts of numbers, and which of the numbers were marked.
use Rattle.std.specs.Prelude.{ℕ, ◌≡◌, ◌<◌, ◌==◌, Bool, true, nat_lt, if◌then◌else◌, List, length, slice_index}
use Rattle.std.specs.Prelude.{All, count_by}
use Rattle.std.specs.List.{list_any, sum_by, range_with_len}
use Rattle.khe_base.specs.IdSet.{has_member}

-- whether a number has a value above 0
abbrev pub is_marked : List ℕ → ℕ → Bool
is_marked values n = nat_lt 0 (slice_index values n)

-- how many numbers have one
abbrev pub marked_count : List ℕ → ℕ
marked_count values = count_by (nat_lt 0) values

-- the sum of the values of the numbers in a set
abbrev pub sum_in : List ℕ → List Bool → ℕ
sum_in values set = sum_by (λ n. if has_member set n then slice_index values n else 0) (range_with_len 0 (length values))

-- the list has each number with a value above 0, and is as long as there are such numbers; so a sum
-- over it is one over them
pub record AreListed (values marked : List ℕ) : Type 0 where
  pub known : (n : ℕ) → is_marked values n ≡ true → list_any (λ m. m == n) marked ≡ true
  pub within : All (λ n. n < length values) marked
  pub counted : length marked ≡ marked_count values
  pub summed : (g : ℕ → ℕ) → sum_by g marked
      ≡ sum_by (λ n. if is_marked values n then g n else 0) (range_with_len 0 (length values))
