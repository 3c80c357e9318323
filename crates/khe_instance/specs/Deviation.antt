-- The deviation of a monitor in a state, by the definition of its kind: at an event, a place, a group or a pair by
-- its meets and tasks, at a resource by its tasks.
use Rattle.std.specs.Prelude.{ℕ, Bool, List, length, slice_get}
use Rattle.std.specs.Option.{option_map_or}
use Rattle.khe_instance.specs.EventDeviation as event
use Rattle.khe_instance.specs.ResourceDeviation as resource
use Rattle.khe_instance.specs.Running.{running_tasks}
use Rattle.khe_instance.specs.declared.states.Duty.{Duty}
use Rattle.khe_instance.specs.declared.parts.Parts.{Parts}
use Rattle.khe_instance.specs.declared.points.Point.{Point}
use Rattle.khe_instance.specs.declared.points.Point.TheVariants.{Event, EventResource, EventGroup, EventPair as Pair}
use Rattle.khe_instance.specs.declared.points.Point.TheVariants.{Resource}
use Rattle.khe_instance.specs.declared.points.Monitor.{Monitor}
use Rattle.khe_instance.specs.declared.rules.Rule.{Rule}
use Rattle.khe_instance.specs.declared.rules.Rule.TheVariants.{AssignTime, AssignResource, SplitEvents}
use Rattle.khe_instance.specs.declared.rules.Rule.TheVariants.{DistributeSplitEvents, PreferTimes, PreferResources}
use Rattle.khe_instance.specs.declared.rules.Rule.TheVariants.{AvoidSplitAssignments, SpreadEvents, LinkEvents}
use Rattle.khe_instance.specs.declared.rules.Rule.TheVariants.{OrderEvents, AvoidClashes, AvoidUnavailableTimes}
use Rattle.khe_instance.specs.declared.rules.Rule.TheVariants.{LimitIdleTimes, ClusterBusyTimes, LimitBusyTimes}
use Rattle.khe_instance.specs.declared.rules.Rule.TheVariants.{LimitWorkload}
use Rattle.khe_instance.specs.declared.states.Meet.{Meet}

-- at an event
abbrev pub event_deviation : List Meet → Rule → ℕ → ℕ
event_deviation meets AssignTime e = event.assign_time meets e
event_deviation meets (SplitEvents a b c d) e = event.split_events meets e a b c d
event_deviation meets (DistributeSplitEvents d least greatest) e =
    event.distribute_split_events meets e d least greatest
event_deviation meets (PreferTimes times duration) e = event.prefer_times meets e times duration
event_deviation meets _ e = 0

-- at a place of an event
abbrev pub place_deviation : List Duty → Rule → ℕ → ℕ → ℕ
place_deviation ds (AssignResource role) e place = event.assign_resource ds e place
place_deviation ds (PreferResources resources role) e place = event.prefer_resources ds e place resources
place_deviation ds _ e place = 0

-- at an event group with these events
abbrev pub group_deviation : Parts → List Meet → List Duty → Rule → List Bool → ℕ
group_deviation parts meets ds (AvoidSplitAssignments role) g =
    event.avoid_split_assignments parts.events (length parts.resources) ds g role
group_deviation parts meets ds (SpreadEvents spreads) g = event.spread_events meets g spreads
group_deviation parts meets ds LinkEvents g = event.link_events meets (length parts.times) g
group_deviation parts meets ds _ g = 0

-- at a pair of events
abbrev pub pair_deviation : List Meet → Rule → ℕ → ℕ
pair_deviation meets (OrderEvents pairs) k =
    option_map_or (λ p. event.order_events meets p.first.0 p.second.0 p.min p.max) (slice_get pairs k) 0
pair_deviation meets _ k = 0

-- at a resource, by how many of its tasks run at each time and by its workload
abbrev pub measured : Parts → Rule → (ℕ → ℕ) → ℕ → ℕ
measured parts AvoidClashes counts workload = resource.avoid_clashes counts (length parts.times)
measured parts (AvoidUnavailableTimes times) counts workload = resource.avoid_unavailable_times counts times
measured parts (LimitIdleTimes groups least greatest) counts workload =
    resource.limit_idle_times counts groups least greatest
measured parts (ClusterBusyTimes groups least greatest) counts workload =
    resource.cluster_busy_times counts groups least greatest
measured parts (LimitBusyTimes groups least greatest) counts workload =
    resource.limit_busy_times counts groups least greatest
measured parts (LimitWorkload least greatest) counts workload =
    resource.limit_workload parts.unit workload least greatest
measured parts _ counts workload = 0

-- at a resource
abbrev pub resource_deviation : Parts → List Duty → Rule → ℕ → ℕ
resource_deviation parts ds rule r = measured parts rule (running_tasks ds r)
    (resource.workload_in parts.events parts.unit ds r)

-- a rule's deviation at a point
abbrev pub deviation_at : Parts → List Meet → List Duty → Rule → Point → ℕ
deviation_at parts meets ds rule (Event e) = event_deviation meets rule e.0
deviation_at parts meets ds rule (EventResource e place) = place_deviation ds rule e.0 place
deviation_at parts meets ds rule (EventGroup g) =
    option_map_or (λ group. group_deviation parts meets ds rule group.events) (slice_get parts.groups g) 0
deviation_at parts meets ds rule (Pair k) = pair_deviation meets rule k
deviation_at parts meets ds rule (Resource r) = resource_deviation parts ds rule r.0

-- a monitor's deviation
abbrev pub deviation : Parts → List Meet → List Duty → Monitor → ℕ
deviation parts meets ds m = option_map_or (λ c. deviation_at parts meets ds c.rule m.point)
    (slice_get parts.constraints m.constraint) 0
