-- The limits that an instance is above do not depend on the places of its references and names.
use Rattle.std.proofs.Common.{◌≡◌, ap, refl, ℕ, ◌*◌, List, [], ◌∷◌, length, slice_get, sum_by}
use Rattle.std.specs.Option.{option_map_or}
use Rattle.std.proofs.lemmas.List.{length-map}
use Rattle.fault_tables.specs.declared.limits.TheConstants.{TOO_MANY_TIMES, TOO_MANY_TIME_GROUPS}
use Rattle.fault_tables.specs.declared.limits.TheConstants.{TOO_MANY_RESOURCE_TYPES, TOO_MANY_RESOURCES}
use Rattle.fault_tables.specs.declared.limits.TheConstants.{TOO_MANY_RESOURCE_GROUPS, TOO_MANY_EVENTS}
use Rattle.fault_tables.specs.declared.limits.TheConstants.{TOO_MANY_EVENT_GROUPS, TOO_MANY_CONSTRAINTS}
use Rattle.fault_tables.specs.declared.limits.TheConstants.{TOO_LONG_DURATION, TOO_MANY_TASKS, TOO_MANY_CELLS}
use Rattle.fault_tables.specs.declared.limits.TheConstants.{TOO_MANY_LISTED, TOO_MANY_MONITORS, TOO_MANY_WATCHES}
use Rattle.fault_tables.specs.declared.limits.TheConstants.{TOO_GREAT_UNIT}
use Rattle.khe_instance.specs.declared.points.Point.{Point}
use Rattle.khe_instance.specs.declared.points.Point.TheVariants as standing
use Rattle.xhstt_resolve.specs.Limits as limit
use Rattle.xhstt_resolve.specs.Limits.{above, earliest, first_above}
use Rattle.xhstt_resolve.specs.Members as member
use Rattle.xhstt_resolve.specs.Parts as part
use Rattle.xhstt_resolve.specs.Units.{running_units}
use Rattle.xhstt_shape.specs.Places.{constraint, event, event_group, instance, reference, references, resource}
use Rattle.xhstt_shape.specs.Places.{resource_group, resource_type, rule, spread, time, time_group}
use Rattle.xhstt_shape.specs.declared.constraints.RawConstraint.{RawConstraint}
use Rattle.xhstt_shape.specs.declared.constraints.RawRule.{RawRule}
use Rattle.xhstt_shape.specs.declared.constraints.RawRule.TheVariants as ruled
use Rattle.xhstt_shape.specs.declared.records.EventGroup.{EventGroup}
use Rattle.xhstt_shape.specs.declared.records.RawEvent.{RawEvent}
use Rattle.xhstt_shape.specs.declared.records.RawInstance.{RawInstance}
use Rattle.xhstt_shape.specs.declared.records.Ref.{Ref}
use Rattle.same_archives.proofs.ListLaws.{at_alike, map_alike, sum_alike}
use Rattle.same_archives.proofs.PartsLaws.{durations, events_in, listed_times, monitors_of, pairs_of, places_of}
use Rattle.same_archives.proofs.PartsLaws.{points_of, times_in}

-- durations and tasks
total_duration : (i : RawInstance) → limit.total_duration (instance i) ≡ limit.total_duration i
total_duration i = sum_alike (λ (e : RawEvent). e.duration) (λ (e : RawEvent). e.duration) event (λ e. refl) i.events

task_count : (i : RawInstance) → limit.task_count (instance i) ≡ limit.task_count i
task_count i =
    sum_alike (λ (e : RawEvent). e.duration * length (part.places_of i e))
    (λ (e : RawEvent). e.duration * length (part.places_of (instance i) e)) event
    (λ e. ap (λ ps. e.duration * length ps) (places_of i e)) i.events

-- time groups that are listed
listed_groups : (r : RawRule) → limit.listed_groups (rule r) ≡ limit.listed_groups r
listed_groups ruled.AssignTime = refl
listed_groups (ruled.AssignResource role) = refl
listed_groups (ruled.SplitEvents b c d e) = refl
listed_groups (ruled.DistributeSplitEvents d least greatest) = refl
listed_groups (ruled.PreferTimes groups times duration) = length-map groups reference
listed_groups (ruled.PreferResources groups resources role) = refl
listed_groups (ruled.AvoidSplitAssignments role) = refl
listed_groups (ruled.SpreadEvents groups) = length-map groups spread
listed_groups ruled.LinkEvents = refl
listed_groups ruled.OrderEvents = refl
listed_groups ruled.AvoidClashes = refl
listed_groups (ruled.AvoidUnavailableTimes groups times) = length-map groups reference
listed_groups (ruled.LimitIdleTimes groups least greatest) = length-map groups reference
listed_groups (ruled.ClusterBusyTimes groups least greatest) = length-map groups reference
listed_groups (ruled.LimitBusyTimes groups least greatest) = length-map groups reference
listed_groups (ruled.LimitWorkload least greatest) = refl

listings : (i : RawInstance) → limit.listings (instance i) ≡ limit.listings i
listings i =
    map_alike (λ (c : RawConstraint). limit.listed_groups c.rule) (λ (c : RawConstraint). limit.listed_groups c.rule)
    constraint (λ c. listed_groups c.rule) i.constraints

-- what is watched
grouped_times : (i : RawInstance) (gs : List Ref)
    → sum_by (λ (g : Ref). length (member.times_in (instance i) g.id)) (references gs)
    ≡ sum_by (λ (g : Ref). length (member.times_in i g.id)) gs
grouped_times i gs =
    sum_alike (λ (g : Ref). length (member.times_in i g.id)) (λ (g : Ref). length (member.times_in (instance i) g.id))
    reference (λ g. ap length (times_in i g.id)) gs

watched_times : (i : RawInstance) (r : RawRule) → limit.watched_times (instance i) (rule r) ≡ limit.watched_times i r
watched_times i ruled.AssignTime = refl
watched_times i (ruled.AssignResource role) = refl
watched_times i (ruled.SplitEvents b c d e) = refl
watched_times i (ruled.DistributeSplitEvents d least greatest) = refl
watched_times i (ruled.PreferTimes groups times duration) = refl
watched_times i (ruled.PreferResources groups resources role) = refl
watched_times i (ruled.AvoidSplitAssignments role) = refl
watched_times i (ruled.SpreadEvents groups) = refl
watched_times i ruled.LinkEvents = refl
watched_times i ruled.OrderEvents = refl
watched_times i ruled.AvoidClashes = length-map i.times time
watched_times i (ruled.AvoidUnavailableTimes groups times) = ap length (listed_times i groups times)
watched_times i (ruled.LimitIdleTimes groups least greatest) = grouped_times i groups
watched_times i (ruled.ClusterBusyTimes groups least greatest) = grouped_times i groups
watched_times i (ruled.LimitBusyTimes groups least greatest) = grouped_times i groups
watched_times i (ruled.LimitWorkload least greatest) = refl

group_size : (i : RawInstance) (g : ℕ) → limit.group_size (instance i) g ≡ limit.group_size i g
group_size i g =
    at_alike (λ (x : EventGroup). length (member.events_in i x.id.text))
    (λ (x : EventGroup). length (member.events_in (instance i) x.id.text)) event_group 0
    (λ x. ap length (events_in i x.id.text)) i.event_groups g

watches_at : (i : RawInstance) (c : RawConstraint) (p : Point)
    → limit.watches_at (instance i) (constraint c) p ≡ limit.watches_at i c p
watches_at i c (standing.Event e) = refl
watches_at i c (standing.EventResource e place) = refl
watches_at i c (standing.EventGroup g) = group_size i g
watches_at i c (standing.EventPair k) =
    ap (λ qs. option_map_or limit.named_in (slice_get qs k) 0) (pairs_of i c.applies)
watches_at i c (standing.Resource r) = watched_times i c.rule

watches_of : (i : RawInstance) (c : RawConstraint) → limit.watches_of (instance i) (constraint c) ≡ limit.watches_of i c
watches_of i c = λ j. sum_by (λ p. watches_at i c p j) (points_of i c j)

watch_count : (i : RawInstance) → limit.watch_count (instance i) ≡ limit.watch_count i
watch_count i =
    sum_alike (limit.watches_of i) (limit.watches_of (instance i)) constraint (watches_of i) i.constraints

-- the first limit
pub limit_fault : (i : RawInstance) → limit.limit_fault (instance i) ≡ limit.limit_fault i
limit_fault i = λ j. earliest
    (above TOO_MANY_TIMES (length-map i.times time j)
    ∷ above TOO_MANY_TIME_GROUPS (length-map i.time_groups time_group j)
    ∷ above TOO_MANY_RESOURCE_TYPES (length-map i.resource_types resource_type j)
    ∷ above TOO_MANY_RESOURCES (length-map i.resources resource j)
    ∷ above TOO_MANY_RESOURCE_GROUPS (length-map i.resource_groups resource_group j)
    ∷ above TOO_MANY_EVENTS (length-map i.events event j)
    ∷ above TOO_MANY_EVENT_GROUPS (length-map i.event_groups event_group j)
    ∷ above TOO_MANY_CONSTRAINTS (length-map i.constraints constraint j)
    ∷ above TOO_LONG_DURATION (total_duration i j)
    ∷ above TOO_MANY_TASKS (task_count i j)
    ∷ above TOO_MANY_CELLS (length-map i.resources resource j * length-map i.times time j)
    ∷ first_above TOO_MANY_LISTED (listings i j)
    ∷ above TOO_MANY_MONITORS (length (monitors_of i j))
    ∷ above TOO_MANY_WATCHES (watch_count i j)
    ∷ first_above TOO_GREAT_UNIT (running_units 1 (durations i.events j))
    ∷ [])
