-- How much a monitor watches, by the sizes of what its rule and its point name.
use Rattle.std.specs.Prelude.{ℕ, ◌==◌, Bool, if◌then◌else◌, length, slice_get}
use Rattle.std.specs.List.{sum_by}
use Rattle.std.specs.Option.{option_map_or}
use Rattle.khe_base.specs.IdSet.{member_count}
use Rattle.khe_instance.specs.declared.parts.Parts.{Parts}
use Rattle.khe_instance.specs.declared.points.Monitor.{Monitor}
use Rattle.khe_instance.specs.declared.points.Point.{Point}
use Rattle.khe_instance.specs.declared.points.Point.TheVariants.{Event, EventResource, EventGroup, EventPair as Pair}
use Rattle.khe_instance.specs.declared.points.Point.TheVariants.{Resource}
use Rattle.khe_instance.specs.declared.rules.Rule.{Rule}
use Rattle.khe_instance.specs.declared.rules.Rule.TheVariants.{OrderEvents, AvoidClashes, AvoidUnavailableTimes}
use Rattle.khe_instance.specs.declared.rules.Rule.TheVariants.{LimitIdleTimes, ClusterBusyTimes, LimitBusyTimes}

-- one event that is named twice, or two
abbrev pub named : Bool → ℕ
named same = if same then 1 else 2

-- how many events a pair names
abbrev pub pair_size : Rule → ℕ → ℕ
pair_size (OrderEvents pairs) k = option_map_or (λ q. named (q.first.0 == q.second.0)) (slice_get pairs k) 0
pair_size _ k = 0

-- how many events a group has
abbrev pub group_size : Parts → ℕ → ℕ
group_size p g = option_map_or (λ group. member_count group.events) (slice_get p.groups g) 0

-- how many times a rule lists, with repeats, and 1 for a workload
abbrev pub listed_times : Parts → Rule → ℕ
listed_times p AvoidClashes = length p.times
listed_times p (AvoidUnavailableTimes times) = member_count times
listed_times p (LimitIdleTimes groups least greatest) = sum_by member_count groups
listed_times p (ClusterBusyTimes groups least greatest) = sum_by member_count groups
listed_times p (LimitBusyTimes groups least greatest) = sum_by member_count groups
listed_times p _ = 1

-- what a monitor's point and rule watch: the one event, the events of the group or the pair, or the
-- listed times
abbrev pub watched_size : Parts → Rule → Point → ℕ
watched_size p rule (Event e) = 1
watched_size p rule (EventResource e place) = 1
watched_size p rule (EventGroup g) = group_size p g
watched_size p rule (Pair k) = pair_size rule k
watched_size p rule (Resource r) = listed_times p rule

-- what a monitor watches, by its constraint's rule
abbrev pub size_watched : Parts → Monitor → ℕ
size_watched p m = option_map_or (λ c. watched_size p c.rule m.point) (slice_get p.constraints m.constraint) 0
