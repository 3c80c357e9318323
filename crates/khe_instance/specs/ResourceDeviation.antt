-- The deviations of the six kinds at resources, each after the page of its kind in the XHSTT format. Limit Workload
-- is of the resource's workload, rounded up once; the others are of how many of its tasks run at each time. Two
-- tasks of one meet with one resource clash.
use Rattle.std.specs.Prelude.{ℕ, ◌+◌, ◌-◌, ◌*◌, ◌/◌, Bool, nat_lt, if◌then◌else◌, List, count_by, slice_get}
use Rattle.std.specs.List.{sum_by, range_with_len}
use Rattle.std.specs.Option.{option_map_or}
use Rattle.khe_base.specs.Bounds.{count_outside}
use Rattle.khe_base.specs.Busy.{busy_times, idle_times}
use Rattle.khe_instance.specs.Running.{is_resource}
use Rattle.khe_instance.specs.declared.states.Duty.{Duty}
use Rattle.khe_instance.specs.declared.parts.EventInfo.{EventInfo}

-- whether the resource is busy at a time. Here and below `counts` gives for each time how many of the
-- resource's tasks run then, and a set of times is a list with one entry for each time, true where it is a
-- member
abbrev pub busy_by : (ℕ → ℕ) → ℕ → Bool
busy_by counts t = nat_lt 0 (counts t)

-- Avoid Clashes: for each time, how many tasks run then beyond one
abbrev pub avoid_clashes : (ℕ → ℕ) → ℕ → ℕ
avoid_clashes counts times = sum_by (λ t. counts t - 1) (range_with_len 0 times)

-- Avoid Unavailable Times: how many of the listed times the resource is busy at
abbrev pub avoid_unavailable_times : (ℕ → ℕ) → List Bool → ℕ
avoid_unavailable_times counts times = busy_times (busy_by counts) times

-- Limit Idle Times: how far the idle times of the listed groups together lie outside the bounds
abbrev pub limit_idle_times : (ℕ → ℕ) → List (List Bool) → ℕ → ℕ → ℕ
limit_idle_times counts groups least greatest =
    count_outside (sum_by (idle_times (busy_by counts)) groups) least greatest

-- Cluster Busy Times: how far the number of listed groups with a busy time lies outside the bounds
abbrev pub cluster_busy_times : (ℕ → ℕ) → List (List Bool) → ℕ → ℕ → ℕ
cluster_busy_times counts groups least greatest =
    count_outside (count_by (λ g. nat_lt 0 (busy_times (busy_by counts) g)) groups) least greatest

-- how far a number above 0 lies outside the bounds, and 0 of 0
abbrev pub used_outside : ℕ → ℕ → ℕ → ℕ
used_outside n least greatest = if nat_lt 0 n then count_outside n least greatest else 0

-- Limit Busy Times: for each listed group with a busy time, how far the number of its busy times
-- lies outside the bounds
abbrev pub limit_busy_times : (ℕ → ℕ) → List (List Bool) → ℕ → ℕ → ℕ
limit_busy_times counts groups least greatest =
    sum_by (λ g. used_outside (busy_times (busy_by counts) g) least greatest) groups

-- what a task is worth to its resource, in parts of one over the unit: the workload of its place times its
-- meet's share of the event's duration. The unit is the least common multiple of all durations, so that the
-- share is a whole number of parts and only the sum is rounded
abbrev pub workload_of : List EventInfo → ℕ → Duty → ℕ
workload_of events unit d =
    option_map_or (λ event. option_map_or (λ p. p.workload * d.meet.duration * (unit / event.duration))
    (slice_get event.places d.place) 0)
    (slice_get events d.meet.event.0) 0

-- what the tasks of a resource are worth together
abbrev pub workload_in : List EventInfo → ℕ → List Duty → ℕ → ℕ
workload_in events unit ds r = sum_by (λ d. if is_resource r d.resource then workload_of events unit d else 0) ds

-- a number of parts of one over the unit, rounded up to a whole number
abbrev pub rounded_up : ℕ → ℕ → ℕ
rounded_up parts unit = (parts + unit - 1) / unit

-- Limit Workload: how far a workload, in parts of one over the unit, lies outside the bounds,
-- rounded up once
abbrev pub limit_workload : ℕ → ℕ → ℕ → ℕ → ℕ
limit_workload unit workload least greatest = rounded_up (count_outside workload (least * unit) (greatest * unit)) unit
