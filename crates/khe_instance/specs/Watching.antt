-- What a monitor watches: the events that it names, or for a monitor at a resource the times that its rule lists.
-- The limit on watches counts these, and the watchers of a change are found by them.
use Rattle.std.specs.Prelude.{ℕ, ◌+◌, ◌==◌, Bool, true, false, ◌||◌, nat_lt, if◌then◌else◌, length, count_by, slice_get}
use Rattle.std.specs.List.{sum_by, range_with_len}
use Rattle.std.specs.Option.{option_map_or}
use Rattle.khe_base.specs.IdSet.{has_member}
use Rattle.khe_instance.specs.declared.parts.Parts.{Parts}
use Rattle.khe_instance.specs.declared.points.Monitor.{Monitor}
use Rattle.khe_instance.specs.declared.points.Point.{Point}
use Rattle.khe_instance.specs.declared.points.Point.TheVariants.{Event, EventResource, EventGroup, EventPair as Pair}
use Rattle.khe_instance.specs.declared.points.Point.TheVariants.{Resource}
use Rattle.khe_instance.specs.declared.rules.Rule.{Rule}
use Rattle.khe_instance.specs.declared.rules.Rule.TheVariants.{OrderEvents, AvoidClashes, AvoidUnavailableTimes}
use Rattle.khe_instance.specs.declared.rules.Rule.TheVariants.{LimitIdleTimes, ClusterBusyTimes, LimitBusyTimes}
use Rattle.khe_instance.specs.declared.rules.Rule.TheVariants.{LimitWorkload}

-- whether a rule's pair with this number names the event
abbrev pub pair_names : Rule → ℕ → ℕ → Bool
pair_names (OrderEvents pairs) k e = option_map_or (λ q. (q.first.0 == e) || (q.second.0 == e)) (slice_get pairs k)
    false
pair_names _ k e = false

-- whether the point is the event or one of its event resources, a group that has it or a pair that
-- names it: then each change of a meet or a task of the event reaches the monitor
abbrev pub names_event : Parts → Rule → Point → ℕ → Bool
names_event p rule (Event x) e = x.0 == e
names_event p rule (EventResource x place) e = x.0 == e
names_event p rule (EventGroup g) e = option_map_or (λ group. has_member group.events e) (slice_get p.groups g) false
names_event p rule (Pair k) e = pair_names rule k e
names_event p rule (Resource r) e = false

-- how often a rule lists a time for a resource: a time group that is listed twice counts twice, and
-- Avoid Clashes lists all times
abbrev pub times_listed : Rule → ℕ → ℕ
times_listed AvoidClashes t = 1
times_listed (AvoidUnavailableTimes times) t = if has_member times t then 1 else 0
times_listed (LimitIdleTimes groups least greatest) t = count_by (λ g. has_member g t) groups
times_listed (ClusterBusyTimes groups least greatest) t = count_by (λ g. has_member g t) groups
times_listed (LimitBusyTimes groups least greatest) t = count_by (λ g. has_member g t) groups
times_listed _ t = 0

-- whether it lists the time
abbrev pub lists_time : Rule → ℕ → Bool
lists_time rule t = nat_lt 0 (times_listed rule t)

-- whether it is on the workload of a resource
abbrev pub is_workload : Rule → Bool
is_workload (LimitWorkload least greatest) = true
is_workload _ = false

-- whether the point is this resource
abbrev pub is_at : Point → ℕ → Bool
is_at (Resource x) r = x.0 == r
is_at _ r = false

-- how many events a rule's monitor at a point names
abbrev pub events_watched : Parts → Rule → Point → ℕ
events_watched p rule point = count_by (names_event p rule point) (range_with_len 0 (length p.events))

-- how many times a rule lists for a resource, with repeats, and one for its workload
abbrev pub times_watched : Parts → Rule → ℕ
times_watched p rule = sum_by (times_listed rule)
    (range_with_len 0 (length p.times)) + (if is_workload rule then 1 else 0)

-- how many events, or listed times with repeats, a rule's monitor at a point watches
abbrev pub watches_at : Parts → Rule → Point → ℕ
watches_at p rule (Resource r) = times_watched p rule
watches_at p rule point = events_watched p rule point

abbrev pub watches : Parts → Monitor → ℕ
watches p m = option_map_or (λ c. watches_at p c.rule m.point) (slice_get p.constraints m.constraint) 0
