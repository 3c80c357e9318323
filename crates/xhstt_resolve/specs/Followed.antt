-- A constraint expanded: its points in order, each with how much is watched there.
use Rattle.std.specs.Prelude.{ℕ, ◌+◌, ◌-◌, ◌^◌, min, Option, Some, None, List, [], ◌∷◌, ◌++◌, map}
use Rattle.std.specs.List.{enumerate_from, filter, flat_map}
use Rattle.khe_instance.specs.declared.points.Point.{Point}
use Rattle.khe_instance.specs.declared.points.Point.TheVariants as point
use Rattle.xhstt_resolve.specs.Limits.{group_size, named_in, watches_at}
use Rattle.xhstt_resolve.specs.Members.{numbers_where}
use Rattle.xhstt_resolve.specs.Points.{event_point, has_role, monitor_of, place_point, places_at, points_of, resource_point}
use Rattle.xhstt_resolve.specs.Roles.{is_at}
use Rattle.xhstt_resolve.specs.Rules.{pair_of}
use Rattle.xhstt_resolve.specs.declared.counting.Counts.{Counts}
use Rattle.xhstt_resolve.specs.declared.monitors.Monitors.{Monitors}
use Rattle.xhstt_resolve.specs.declared.points.Visit.{Visit}
use Rattle.xhstt_resolve.specs.declared.roles.RolePlace.{RolePlace}
use Rattle.xhstt_shape.specs.declared.constraints.RawConstraint.{RawConstraint}
use Rattle.xhstt_shape.specs.declared.constraints.RawPair.{RawPair}
use Rattle.xhstt_shape.specs.declared.records.RawInstance.{RawInstance}

-- a point of a constraint with how much is watched there
abbrev pub visit_at : RawInstance → RawConstraint → Point → Visit
visit_at i c p = record { point = p; watches = watches_at i c p }

-- the points of a constraint with what each watches, in their order
abbrev pub followed : RawInstance → RawConstraint → List Visit
followed i c = map (visit_at i c) (points_of i c)

-- one point more is counted; a count stays at the greatest number that it can be
abbrev pub with_count : Counts → Visit → Counts
with_count n v = record {
  monitors = min (n.monitors + 1) (2 ^ 128 - 1);
  watches = min (n.watches + v.watches) (2 ^ 128 - 1);
}

-- one point more becomes a monitor
abbrev pub with_monitor : Monitors → Visit → Monitors
with_monitor m v = record {
  kind = m.kind;
  constraint = m.constraint;
  made = m.made ++ monitor_of m.kind m.constraint v.point ∷ [];
}

-- the same by the form of what a constraint applies to: events and event resources are watched once,
-- groups and pairs by their events, and all resources alike
abbrev pub event_visit : ℕ → Visit
event_visit e = record { point = event_point e; watches = 1 }

abbrev pub place_visit : ℕ → ℕ → Visit
place_visit e place = record { point = place_point e place; watches = 1 }

abbrev pub role_visits : RawInstance → List ℕ → ℕ → List Visit
role_visits i role e = map (place_visit e) (numbers_where (has_role role) (places_at i e))

-- an event resource by its event and its place, and those of an event among some
abbrev pub visit_of : RolePlace → Visit
visit_of p = place_visit p.event p.place

abbrev pub visits_at : List RolePlace → ℕ → List Visit
visits_at places e = map visit_of (filter (is_at e) places)

abbrev pub event_visits : RawInstance → Option (List ℕ) → List ℕ → List Visit
event_visits i None events = map event_visit events
event_visits i (Some role) events = flat_map (role_visits i role) events

abbrev pub group_visit : RawInstance → ℕ → Visit
group_visit i g = record { point = point.EventGroup g; watches = group_size i g }

abbrev pub pair_visit : RawInstance → ℕ × RawPair → Visit
pair_visit i (k, p) = record { point = point.EventPair k; watches = named_in (pair_of i p) }

abbrev pub pair_visits : RawInstance → List RawPair → List Visit
pair_visits i pairs = map (pair_visit i) (enumerate_from 0 pairs)

abbrev pub resource_visit : ℕ → ℕ → Visit
resource_visit watches r = record { point = resource_point r; watches = watches }
