-- The points of a constraint: the members of its groups, group by group, then those listed one by one, each once.
-- Monitors are constraints at their points, in the order of the archive.
use Rattle.std.specs.Prelude.{ℕ, Bool, false, Option, Some, None, List, [], map, length, slice_get}
use Rattle.std.specs.List.{enumerate_from, flat_map, range_with_len}
use Rattle.std.specs.Option.{option_map_or}
use Rattle.std.specs.Str.{bytes_eq}
use Rattle.khe_instance.specs.Kinds.{kind_of}
use Rattle.khe_instance.specs.declared.points.Monitor.{Monitor}
use Rattle.khe_instance.specs.declared.points.Point.{Point}
use Rattle.khe_instance.specs.declared.points.Point.TheVariants as point
use Rattle.khe_instance.specs.declared.rules.Kind.{Kind}
use Rattle.xhstt_references.specs.Ids.{event_group_ids}
use Rattle.xhstt_resolve.specs.Members.{numbers_where, numbers_of, listed_events, listed_resources, first_mentions}
use Rattle.xhstt_resolve.specs.Rules.{rule_of}
use Rattle.xhstt_shape.specs.declared.constraints.RawApplies.{RawApplies}
use Rattle.xhstt_shape.specs.declared.constraints.RawApplies.TheVariants as applied
use Rattle.xhstt_shape.specs.declared.constraints.RawConstraint.{RawConstraint}
use Rattle.xhstt_shape.specs.declared.constraints.RawRule.{RawRule}
use Rattle.xhstt_shape.specs.declared.constraints.RawRule.TheVariants as ruled
use Rattle.xhstt_shape.specs.declared.records.RawEventResource.{RawEventResource}
use Rattle.xhstt_shape.specs.declared.records.RawInstance.{RawInstance}

-- the role of a constraint whose points are the event resources of one role
abbrev pub role_of : RawRule → Option (List ℕ)
role_of ruled.AssignTime = None
role_of (ruled.AssignResource role) = Some role.text
role_of (ruled.SplitEvents min_duration max_duration min_amount max_amount) = None
role_of (ruled.DistributeSplitEvents duration least greatest) = None
role_of (ruled.PreferTimes groups times duration) = None
role_of (ruled.PreferResources groups resources role) = Some role.text
role_of (ruled.AvoidSplitAssignments role) = None
role_of (ruled.SpreadEvents groups) = None
role_of ruled.LinkEvents = None
role_of ruled.OrderEvents = None
role_of ruled.AvoidClashes = None
role_of (ruled.AvoidUnavailableTimes groups times) = None
role_of (ruled.LimitIdleTimes groups least greatest) = None
role_of (ruled.ClusterBusyTimes groups least greatest) = None
role_of (ruled.LimitBusyTimes groups least greatest) = None
role_of (ruled.LimitWorkload least greatest) = None

-- whether an event resource has the role
abbrev pub has_role : List ℕ → RawEventResource → Bool
has_role role r = option_map_or (λ name. bytes_eq name.text role) r.role false

-- the event resources of an event, and none for a number that no event has
abbrev pub places_at : RawInstance → ℕ → List RawEventResource
places_at i e = option_map_or (λ event. event.resources) (slice_get i.events e) []

-- an event as a point, and its event resources of a role
abbrev pub event_point : ℕ → Point
event_point e = point.Event (record { 0 = e })

abbrev pub resource_point : ℕ → Point
resource_point r = point.Resource (record { 0 = r })

abbrev pub place_point : ℕ → ℕ → Point
place_point e place = point.EventResource (record { 0 = e }) place

abbrev pub role_points : RawInstance → List ℕ → ℕ → List Point
role_points i role e = map (place_point e) (numbers_where (has_role role) (places_at i e))

-- the points of events: themselves, or their event resources of a role
abbrev pub points_of_events : RawInstance → Option (List ℕ) → List ℕ → List Point
points_of_events i None events = map event_point events
points_of_events i (Some role) events = flat_map (role_points i role) events

-- the points of a constraint, each at its first mention; a pair is a point each time that it is listed
abbrev pub points_in : RawInstance → Option (List ℕ) → RawApplies → List Point
points_in i role (applied.Events groups events) =
    points_of_events i role (first_mentions (listed_events i groups events))
points_in i role (applied.Groups groups) = map point.EventGroup (first_mentions (numbers_of (event_group_ids i) groups))
points_in i role (applied.Pairs pairs) = map point.EventPair (range_with_len 0 (length pairs))
points_in i role (applied.Resources groups resources) =
    map resource_point (first_mentions (listed_resources i groups resources))

abbrev pub points_of : RawInstance → RawConstraint → List Point
points_of i c = points_in i (role_of c.rule) c.applies

abbrev pub monitor_of : Kind → ℕ → Point → Monitor
monitor_of kind k p = record { kind = kind; constraint = k; point = p }

-- the monitors of the constraint with a number
abbrev pub monitors_at : RawInstance → ℕ × RawConstraint → List Monitor
monitors_at i (k, c) = map (monitor_of (kind_of (rule_of i c.applies c.rule)) k) (points_of i c)

abbrev pub monitors_of : RawInstance → List Monitor
monitors_of i = flat_map (monitors_at i) (enumerate_from 0 i.constraints)
