-- The fifteen limits on an instance in the order of their numbers, each with the value that is counted. The first
-- that is above its greatest value is told; of listed time groups that of the first constraint above it, of the unit
-- the first running multiple above it.
use Rattle.std.specs.Prelude.{ℕ, ◌*◌, ◌==◌, if◌then◌else◌, nat_lt, Option, Some, None, List, [], ◌∷◌, map, length, find}
use Rattle.std.specs.Prelude.{slice_get}
use Rattle.std.specs.List.{sum_by}
use Rattle.std.specs.Option.{option_and_then, option_map, option_map_or, option_or}
use Rattle.fault_tables.specs.Limits.{greatest_of}
use Rattle.khe_instance.specs.declared.points.Point.{Point}
use Rattle.khe_instance.specs.declared.points.Point.TheVariants as point
use Rattle.khe_instance.specs.declared.rules.EventPair.{EventPair}
use Rattle.xhstt_resolve.specs.Members.{times_in, events_in, listed_times}
use Rattle.xhstt_resolve.specs.Parts.{places_of}
use Rattle.xhstt_resolve.specs.Points.{points_of, monitors_of}
use Rattle.xhstt_resolve.specs.Rules.{pairs_of}
use Rattle.xhstt_resolve.specs.Units.{running_units}
use Rattle.xhstt_resolve.specs.declared.faults.ResolveFault.{ResolveFault}
use Rattle.xhstt_resolve.specs.declared.faults.ResolveFault.TheVariants.{Limit}
use Rattle.fault_tables.specs.declared.limits.TheConstants.{TOO_MANY_TIMES, TOO_MANY_TIME_GROUPS}
use Rattle.fault_tables.specs.declared.limits.TheConstants.{TOO_MANY_RESOURCE_TYPES, TOO_MANY_RESOURCES}
use Rattle.fault_tables.specs.declared.limits.TheConstants.{TOO_MANY_RESOURCE_GROUPS, TOO_MANY_EVENTS}
use Rattle.fault_tables.specs.declared.limits.TheConstants.{TOO_MANY_EVENT_GROUPS, TOO_MANY_CONSTRAINTS}
use Rattle.fault_tables.specs.declared.limits.TheConstants.{TOO_LONG_DURATION, TOO_MANY_TASKS, TOO_MANY_CELLS}
use Rattle.fault_tables.specs.declared.limits.TheConstants.{TOO_MANY_LISTED, TOO_MANY_MONITORS, TOO_MANY_WATCHES}
use Rattle.fault_tables.specs.declared.limits.TheConstants.{TOO_GREAT_UNIT}
use Rattle.xhstt_shape.specs.declared.constraints.RawConstraint.{RawConstraint}
use Rattle.xhstt_shape.specs.declared.constraints.RawRule.{RawRule}
use Rattle.xhstt_shape.specs.declared.constraints.RawRule.TheVariants as ruled
use Rattle.xhstt_shape.specs.declared.records.RawInstance.{RawInstance}

-- the first of some values that is above the greatest, as a fault
abbrev pub first_beyond : ℕ → ℕ → List ℕ → Option ResolveFault
first_beyond which greatest values = option_map (Limit which) (find (nat_lt greatest) values)

-- a value that is above the greatest, as a fault
abbrev pub beyond : ℕ → ℕ → ℕ → Option ResolveFault
beyond which greatest value = if nat_lt greatest value then Some (Limit which value) else None

-- a value, and the first of some values, that is above the greatest of its limit
abbrev pub above : ℕ → ℕ → Option ResolveFault
above which value = option_and_then (λ greatest. beyond which greatest value) (greatest_of which)

abbrev pub first_above : ℕ → List ℕ → Option ResolveFault
first_above which values = option_and_then (λ greatest. first_beyond which greatest values) (greatest_of which)

-- the first fault of a list of looks for one
abbrev pub earliest : List (Option ResolveFault) → Option ResolveFault
earliest [] = None
earliest (fault ∷ faults) = option_or fault (earliest faults)

-- the sum of the durations, and the number of tasks: each event takes all its places for its duration
abbrev pub total_duration : RawInstance → ℕ
total_duration i = sum_by (λ e. e.duration) i.events

abbrev pub task_count : RawInstance → ℕ
task_count i = sum_by (λ e. e.duration * length (places_of i e)) i.events

-- how many time groups a constraint lists
abbrev pub listed_groups : RawRule → ℕ
listed_groups ruled.AssignTime = 0
listed_groups (ruled.AssignResource role) = 0
listed_groups (ruled.SplitEvents min_duration max_duration min_amount max_amount) = 0
listed_groups (ruled.DistributeSplitEvents duration least greatest) = 0
listed_groups (ruled.PreferTimes groups times duration) = length groups
listed_groups (ruled.PreferResources groups resources role) = 0
listed_groups (ruled.AvoidSplitAssignments role) = 0
listed_groups (ruled.SpreadEvents groups) = length groups
listed_groups ruled.LinkEvents = 0
listed_groups ruled.OrderEvents = 0
listed_groups ruled.AvoidClashes = 0
listed_groups (ruled.AvoidUnavailableTimes groups times) = length groups
listed_groups (ruled.LimitIdleTimes groups least greatest) = length groups
listed_groups (ruled.ClusterBusyTimes groups least greatest) = length groups
listed_groups (ruled.LimitBusyTimes groups least greatest) = length groups
listed_groups (ruled.LimitWorkload least greatest) = 0

-- how many times a constraint on resources watches at each of them: the times that it lists, with repeats
abbrev pub watched_times : RawInstance → RawRule → ℕ
watched_times i ruled.AssignTime = 1
watched_times i (ruled.AssignResource role) = 1
watched_times i (ruled.SplitEvents min_duration max_duration min_amount max_amount) = 1
watched_times i (ruled.DistributeSplitEvents duration least greatest) = 1
watched_times i (ruled.PreferTimes groups times duration) = 1
watched_times i (ruled.PreferResources groups resources role) = 1
watched_times i (ruled.AvoidSplitAssignments role) = 1
watched_times i (ruled.SpreadEvents groups) = 1
watched_times i ruled.LinkEvents = 1
watched_times i ruled.OrderEvents = 1
watched_times i ruled.AvoidClashes = length i.times
watched_times i (ruled.AvoidUnavailableTimes groups times) = length (listed_times i groups times)
watched_times i (ruled.LimitIdleTimes groups least greatest) = sum_by (λ g. length (times_in i g.id)) groups
watched_times i (ruled.ClusterBusyTimes groups least greatest) = sum_by (λ g. length (times_in i g.id)) groups
watched_times i (ruled.LimitBusyTimes groups least greatest) = sum_by (λ g. length (times_in i g.id)) groups
watched_times i (ruled.LimitWorkload least greatest) = 1

-- how many events the group with a number has
abbrev pub group_size : RawInstance → ℕ → ℕ
group_size i g = option_map_or (λ group. length (events_in i group.id.text)) (slice_get i.event_groups g) 0

-- how many events a pair names, and the pair with a number
abbrev pub named_in : EventPair → ℕ
named_in q = if q.first.0 == q.second.0 then 1 else 2

abbrev pub pair_size : RawInstance → RawConstraint → ℕ → ℕ
pair_size i c k = option_map_or named_in (slice_get (pairs_of i c.applies) k) 0

-- what a constraint watches at a point
abbrev pub watches_at : RawInstance → RawConstraint → Point → ℕ
watches_at i c (point.Event e) = 1
watches_at i c (point.EventResource e place) = 1
watches_at i c (point.EventGroup g) = group_size i g
watches_at i c (point.EventPair k) = pair_size i c k
watches_at i c (point.Resource r) = watched_times i c.rule

-- what a constraint watches at all its points
abbrev pub watches_of : RawInstance → RawConstraint → ℕ
watches_of i c = sum_by (watches_at i c) (points_of i c)

abbrev pub watch_count : RawInstance → ℕ
watch_count i = sum_by (watches_of i) i.constraints

-- how many time groups each constraint lists
abbrev pub listings : RawInstance → List ℕ
listings i = map (λ c. listed_groups c.rule) i.constraints

-- the running multiples of the durations of events
abbrev pub units : RawInstance → List ℕ
units i = running_units 1 (map (λ e. e.duration) i.events)

-- the first limit that an instance is above
abbrev pub limit_fault : RawInstance → Option ResolveFault
limit_fault i = earliest
    (above TOO_MANY_TIMES (length i.times)
    ∷ above TOO_MANY_TIME_GROUPS (length i.time_groups)
    ∷ above TOO_MANY_RESOURCE_TYPES (length i.resource_types)
    ∷ above TOO_MANY_RESOURCES (length i.resources)
    ∷ above TOO_MANY_RESOURCE_GROUPS (length i.resource_groups)
    ∷ above TOO_MANY_EVENTS (length i.events)
    ∷ above TOO_MANY_EVENT_GROUPS (length i.event_groups)
    ∷ above TOO_MANY_CONSTRAINTS (length i.constraints)
    ∷ above TOO_LONG_DURATION (total_duration i)
    ∷ above TOO_MANY_TASKS (task_count i)
    ∷ above TOO_MANY_CELLS (length i.resources * length i.times)
    ∷ first_above TOO_MANY_LISTED (listings i)
    ∷ above TOO_MANY_MONITORS (length (monitors_of i))
    ∷ above TOO_MANY_WATCHES (watch_count i)
    ∷ first_above TOO_GREAT_UNIT (units i)
    ∷ [])
