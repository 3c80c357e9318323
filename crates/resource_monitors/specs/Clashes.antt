-- How many tasks of a resource run at a time beyond one, summed over all times.
use Rattle.std.specs.Prelude.{ℕ, ◌≡◌, ◌≤◌, ◌-◌, List, length, slice_index}
use Rattle.std.specs.List.{sum_by}
use Rattle.khe_base.specs.declared.limits.TheConstants.{GREATEST_COUNT, TIMES}
use Rattle.timetables.specs.Counts.{row_of, count_at}

abbrev pub clashes_of : List ℕ → ℕ
clashes_of row = sum_by (λ n. n - 1) row

-- a total for each row of counts, which are few enough for all totals to be small
pub record HasClashes (rows : List (List ℕ)) (totals : List ℕ) : Type 0 where
  pub amount : length totals ≡ length rows
  pub short : (r : ℕ) → length (row_of rows r) ≤ TIMES
  pub few : (r t : ℕ) → count_at rows r t ≤ GREATEST_COUNT
  pub each : (r : ℕ) → slice_index totals r ≡ clashes_of (row_of rows r)
