-- A timetable is a list of rows, one for each resource: its counts at the times 0, 1, 2 and so on.
-- A set of times is a list with one entry for each time, true where it is a member.
use Rattle.std.specs.Prelude.{ℕ, Bool, List, [], replicate, nat_lt, slice_index, slice_index_or, slice_set}
use Rattle.khe_base.specs.Busy.{busy_times as busy_count, idle_times as idle_count}

-- the timetable of this many resources and times in which every count is 0
abbrev pub no_counts : ℕ → ℕ → List (List ℕ)
no_counts resources times = replicate resources (replicate times 0)

-- the counts of resource r, and its count at time t
abbrev pub row_of : List (List ℕ) → ℕ → List ℕ
row_of rows r = slice_index_or rows r []

abbrev pub count_at : List (List ℕ) → ℕ → ℕ → ℕ
count_at rows r t = slice_index (row_of rows r) t

-- the timetable with another count of resource r at time t
abbrev pub with_count : List (List ℕ) → ℕ → ℕ → ℕ → List (List ℕ)
with_count rows r t count = slice_set rows r (slice_set (row_of rows r) t count)

-- whether the count at time t is above 0; beyond the last time it isn't
abbrev pub is_busy : List ℕ → ℕ → Bool
is_busy row t = nat_lt 0 (slice_index row t)

-- the number of times of the set at which a resource with these counts is busy
abbrev pub busy_times : List ℕ → List Bool → ℕ
busy_times row set = busy_count (is_busy row) set

-- the number of idle times of the set: times of the set at which the resource isn't busy, and is
-- busy at an earlier and at a later time of the set
abbrev pub idle_times : List ℕ → List Bool → ℕ
idle_times row set = idle_count (is_busy row) set
