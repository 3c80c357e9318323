-- How many of some events run at each time, by the counts of their meets: a row for each event, with a
-- count for each time.
use Rattle.std.specs.Prelude.{ℕ, ◌≡◌, ◌<◌, ◌≤◌, ◌&&◌, if◌then◌else◌, nat_lt, Bool, List, length, slice_index, count_by}
use Rattle.std.specs.List.{range_with_len}
use Rattle.khe_base.specs.declared.limits.TheConstants.{TIMES}
use Rattle.timetables.specs.Counts.{row_of, is_busy}

-- one where a test passes
abbrev pub one_if : Bool → ℕ
one_if b = if b then 1 else 0

-- whether some of n events run, and not all
abbrev pub is_apart : ℕ → ℕ → Bool
is_apart running events = nat_lt 0 running && nat_lt running events

-- how many events run at a time
abbrev pub running_at : List (List ℕ) → ℕ → ℕ
running_at rows t = count_by (λ row. is_busy row t) rows

-- at how many of n times some of them run and some do not
abbrev pub apart_times : List (List ℕ) → ℕ → ℕ
apart_times rows times = count_by (λ t. is_apart (running_at rows t) (length rows)) (range_with_len 0 times)

-- the given numbers of events and of times, and at how many of these events run, are those of the rows, and so is at
-- how many times some but not all run
pub record AreLinked (rows : List (List ℕ)) (events : ℕ) (running : List ℕ) (apart : ℕ) : Type 0 where
  pub all : events ≡ length rows
  pub long : (i : ℕ) → i < length rows → length (row_of rows i) ≡ length running
  pub each : (t : ℕ) → t < length running → slice_index running t ≡ running_at rows t
  pub total : apart ≡ apart_times rows (length running)
  pub few : length running ≤ TIMES
