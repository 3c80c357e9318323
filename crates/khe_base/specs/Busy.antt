-- The busy times of a set are those at which a test holds. The idle ones are those at which it does not, though it
-- holds at an earlier and at a later time of the set. A set of times is a list with one entry for each time, true
-- where it is a member.
use Rattle.std.specs.Prelude.{ℕ, ◌+◌, ◌-◌, Bool, not, ◌&&◌, List, length, count_by}
use Rattle.std.specs.List.{range_with_len, list_any}
use Rattle.khe_base.specs.IdSet.{has_member}

-- how many of the numbers below n pass the test
abbrev pub count_below : (ℕ → Bool) → ℕ → ℕ
count_below test n = count_by test (range_with_len 0 n)

-- whether some number from `from` on and below `end` passes the test
abbrev pub any_between : (ℕ → Bool) → ℕ → ℕ → Bool
any_between test from end = list_any test (range_with_len from (end - from))

-- whether t is a member that isn't busy, with a busy member before it and one after it, where
-- members are below the size
abbrev pub is_idle_time : (ℕ → Bool) → (ℕ → Bool) → ℕ → ℕ → Bool
is_idle_time member busy size t =
    (member t && not (busy t))
    && (any_between (λ s. member s && busy s) 0 t && any_between (λ s. member s && busy s) (t + 1) size)

-- the number of busy times of the set
abbrev pub busy_times : (ℕ → Bool) → List Bool → ℕ
busy_times busy set = count_below (λ t. has_member set t && busy t) (length set)

-- the number of idle times of the set: times of the set that aren't busy, with an earlier and a
-- later time of the set that are
abbrev pub idle_times : (ℕ → Bool) → List Bool → ℕ
idle_times busy set = count_below (is_idle_time (has_member set) busy (length set)) (length set)
