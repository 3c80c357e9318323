-- What must hold of parts for them to be an instance, each fact with a name: every number names something,
-- every set has its size, Ids and roles are distinct, monitors stand in the order of their constraints with
-- points of their kinds, and the limits are kept.
use Rattle.std.specs.Prelude.{ℕ, ◌+◌, ◌*◌, ◌≡◌, ◌≢◌, ◌<◌, ◌≤◌, ◌==◌, ◌⊎◌, Bool, true, Some, List, [], ◌∷◌, map, length}
use Rattle.std.specs.Prelude.{All, AllPairs, slice_get, IfSome, IsSome}
use Rattle.std.specs.List.{filter, filter_map, sum_by, range_with_len}
use Rattle.std.specs.List.Sorted.{IsNonDecreasing}
use Rattle.std.specs.Option.{option_map}
use Rattle.khe_base.specs.Names.{are_distinct}
use Rattle.khe_base.specs.Units.{IsUnit}
use Rattle.khe_base.specs.declared.limits.TheConstants.{NUMBER, GREATEST_BOUND, TIMES, RESOURCE_TYPES, RESOURCES}
use Rattle.khe_base.specs.declared.limits.TheConstants.{EVENTS, EVENT_GROUPS, CONSTRAINTS, DURATION, TASKS, CELLS}
use Rattle.khe_base.specs.declared.limits.TheConstants.{LISTED, MONITORS, WATCHES, UNIT, WEIGHT}
use Rattle.khe_base.specs.declared.numbers.EventId.{EventId}
use Rattle.khe_base.specs.declared.numbers.ResourceId.{ResourceId}
use Rattle.khe_instance.specs.Kinds.{kind_of}
use Rattle.khe_instance.specs.Lookups.{role_at}
use Rattle.khe_instance.specs.Watching.{watches}
use Rattle.khe_instance.specs.declared.parts.EventInfo.{EventInfo}
use Rattle.khe_instance.specs.declared.parts.Parts.{Parts}
use Rattle.khe_instance.specs.declared.parts.Place.{Place}
use Rattle.khe_instance.specs.declared.points.Monitor.{Monitor}
use Rattle.khe_instance.specs.declared.points.Point.{Point}
use Rattle.khe_instance.specs.declared.points.Point.TheVariants.{Event, EventResource, EventGroup, EventPair as Pair}
use Rattle.khe_instance.specs.declared.points.Point.TheVariants.{Resource}
use Rattle.khe_instance.specs.declared.rules.Constraint.{Constraint}
use Rattle.khe_instance.specs.declared.rules.EventPair.{EventPair}
use Rattle.khe_instance.specs.declared.rules.Rule.{Rule}
use Rattle.khe_instance.specs.declared.rules.Rule.TheVariants.{AssignTime, AssignResource, SplitEvents}
use Rattle.khe_instance.specs.declared.rules.Rule.TheVariants.{DistributeSplitEvents, PreferTimes, PreferResources}
use Rattle.khe_instance.specs.declared.rules.Rule.TheVariants.{AvoidSplitAssignments, SpreadEvents, LinkEvents}
use Rattle.khe_instance.specs.declared.rules.Rule.TheVariants.{OrderEvents, AvoidClashes, AvoidUnavailableTimes}
use Rattle.khe_instance.specs.declared.rules.Rule.TheVariants.{LimitIdleTimes, ClusterBusyTimes, LimitBusyTimes}
use Rattle.khe_instance.specs.declared.rules.Rule.TheVariants.{LimitWorkload}

-- a duration is at least 1
abbrev pub IsDuration : ℕ → Type 0
IsDuration d = (1 ≤ d) × (d ≤ NUMBER)

-- a lower bound, and an upper bound
abbrev pub AreBounds : ℕ → ℕ → Type 0
AreBounds least greatest = (least ≤ NUMBER) × (greatest ≤ GREATEST_BOUND)

-- the preassigned resource of a place has the place's type
abbrev pub HasType : Parts → ℕ → ResourceId → Type 0
HasType p rtype r = option_map (λ x. x.rtype) (slice_get p.resources r.0) ≡ Some rtype

pub record IsPlace (p : Parts) (place : Place) : Type 0 where
  pub typed : place.rtype < p.types
  pub fixed : IfSome place.fixed (HasType p place.rtype)
  pub wanted : IsSome place.role ⊎ IsSome place.fixed
  pub workload : place.workload ≤ NUMBER

pub record IsEvent (p : Parts) (e : EventInfo) : Type 0 where
  pub duration : IsDuration e.duration
  pub fixed : IfSome e.fixed (λ t. t.0 + e.duration ≤ length p.times)
  pub places : All (IsPlace p) e.places
  pub roles : are_distinct (filter_map (λ place. place.role) e.places) ≡ true

-- the first meet slots of events, of which the first is the next free one
abbrev pub AreFirstMeets : ℕ → List EventInfo → Type 0
AreFirstMeets next [] = Unit {0}
AreFirstMeets next (e ∷ es) = (e.first_meet ≡ next) × AreFirstMeets (next + e.duration) es

-- a set of times
abbrev pub IsTimes : Parts → List Bool → Type 0
IsTimes p times = length times ≡ length p.times

-- a list of time groups, in the limit
abbrev pub AreListed : Parts → List (List Bool) → Type 0
AreListed p groups = All (IsTimes p) groups × (length groups ≤ LISTED)

-- what a rule says is in range
abbrev pub IsRule : Parts → Rule → Type 0
IsRule p (SplitEvents a b c d) = AreBounds a b × AreBounds c d
IsRule p (DistributeSplitEvents d least greatest) = IsDuration d × AreBounds least greatest
IsRule p (PreferTimes times duration) = IsTimes p times × IfSome duration IsDuration
IsRule p (PreferResources resources role) = length resources ≡ length p.resources
IsRule p (SpreadEvents spreads) = All (λ s. IsTimes p s.group × AreBounds s.min s.max) spreads
    × (length spreads ≤ LISTED)
IsRule p (OrderEvents pairs) = All (λ q. (q.first.0 < length p.events) × (q.second.0 < length p.events)
    × AreBounds q.min q.max) pairs
IsRule p (AvoidUnavailableTimes times) = IsTimes p times
IsRule p (LimitIdleTimes groups least greatest) = AreListed p groups × AreBounds least greatest
IsRule p (ClusterBusyTimes groups least greatest) = AreListed p groups × AreBounds least greatest
IsRule p (LimitBusyTimes groups least greatest) = AreListed p groups × AreBounds least greatest
IsRule p (LimitWorkload least greatest) = AreBounds least greatest
IsRule p _ = Unit {0}

pub record IsConstraint (p : Parts) (c : Constraint) : Type 0 where
  pub weight : c.weight ≤ WEIGHT
  pub rule : IsRule p c.rule

-- the point is one that such a rule has
abbrev pub IsEventPoint : Parts → EventId → Type 0
IsEventPoint p e = e.0 < length p.events

abbrev pub IsPlacePoint : Parts → List ℕ → Point → Type 0
IsPlacePoint p role (EventResource e place) = role_at p.events e.0 place ≡ Some role
IsPlacePoint p role _ = ⊥

abbrev pub IsGroupPoint : Parts → Point → Type 0
IsGroupPoint p (EventGroup g) = g < length p.groups
IsGroupPoint p _ = ⊥

abbrev pub IsResourcePoint : Parts → Point → Type 0
IsResourcePoint p (Resource r) = r.0 < length p.resources
IsResourcePoint p _ = ⊥

abbrev pub IsPairPoint : List EventPair → Point → Type 0
IsPairPoint pairs (Pair k) = k < length pairs
IsPairPoint pairs _ = ⊥

abbrev pub IsSinglePoint : Parts → Point → Type 0
IsSinglePoint p (Event e) = IsEventPoint p e
IsSinglePoint p _ = ⊥

abbrev pub IsPointOf : Parts → Rule → Point → Type 0
IsPointOf p AssignTime point = IsSinglePoint p point
IsPointOf p (AssignResource role) point = IsPlacePoint p role point
IsPointOf p (SplitEvents a b c d) point = IsSinglePoint p point
IsPointOf p (DistributeSplitEvents d least greatest) point = IsSinglePoint p point
IsPointOf p (PreferTimes times duration) point = IsSinglePoint p point
IsPointOf p (PreferResources resources role) point = IsPlacePoint p role point
IsPointOf p (AvoidSplitAssignments role) point = IsGroupPoint p point
IsPointOf p (SpreadEvents spreads) point = IsGroupPoint p point
IsPointOf p LinkEvents point = IsGroupPoint p point
IsPointOf p (OrderEvents pairs) point = IsPairPoint pairs point
IsPointOf p AvoidClashes point = IsResourcePoint p point
IsPointOf p (AvoidUnavailableTimes times) point = IsResourcePoint p point
IsPointOf p (LimitIdleTimes groups least greatest) point = IsResourcePoint p point
IsPointOf p (ClusterBusyTimes groups least greatest) point = IsResourcePoint p point
IsPointOf p (LimitBusyTimes groups least greatest) point = IsResourcePoint p point
IsPointOf p (LimitWorkload least greatest) point = IsResourcePoint p point

-- a monitor has its constraint's kind and a point of that kind
abbrev pub IsMonitor : Parts → Monitor → Type 0
IsMonitor p m = (c : Constraint) × (slice_get p.constraints m.constraint ≡ Some c) × (m.kind ≡ kind_of c.rule)
    × IsPointOf p c.rule m.point

-- the points of a constraint's monitors, in order
abbrev pub points_of : Parts → ℕ → List Point
points_of p c = map (λ m. m.point) (filter (λ m. m.constraint == c) p.monitors)

-- a constraint on pairs has one monitor for each pair, in the order of its list
abbrev pub HasItsPairs : List Point → Rule → Type 0
HasItsPairs points (OrderEvents pairs) = points ≡ map Pair (range_with_len 0 (length pairs))
HasItsPairs points _ = Unit {0}

pub record AreMonitors (p : Parts) : Type 0 where
  pub each : All (IsMonitor p) p.monitors
  pub ordered : IsNonDecreasing (map (λ m. m.constraint) p.monitors)
  pub once : (c : ℕ) → AllPairs (λ x y. x ≢ y) (points_of p c)
  pub pairs : (k : ℕ) (c : Constraint) → slice_get p.constraints k ≡ Some c → HasItsPairs (points_of p k) c.rule

-- the limits on sizes, as far as parts show them
pub record AreWithinLimits (p : Parts) : Type 0 where
  pub times : length p.times ≤ TIMES
  pub types : p.types ≤ RESOURCE_TYPES
  pub resources : length p.resources ≤ RESOURCES
  pub events : length p.events ≤ EVENTS
  pub groups : length p.groups ≤ EVENT_GROUPS
  pub constraints : length p.constraints ≤ CONSTRAINTS
  pub duration : sum_by (λ e. e.duration) p.events ≤ DURATION
  pub tasks : sum_by (λ e. e.duration * length e.places) p.events ≤ TASKS
  pub cells : length p.resources * length p.times ≤ CELLS
  pub monitors : length p.monitors ≤ MONITORS
  pub watched : sum_by (watches p) p.monitors ≤ WATCHES
  pub unit : p.unit ≤ UNIT

-- parts that make an instance
pub record AreWellMade (p : Parts) : Type 0 where
  pub times_distinct : are_distinct p.times ≡ true
  pub resources_distinct : are_distinct (map (λ r. r.id) p.resources) ≡ true
  pub events_distinct : are_distinct (map (λ e. e.id) p.events) ≡ true
  pub resources : All (λ r. r.rtype < p.types) p.resources
  pub groups : All (λ g. length g.events ≡ length p.events) p.groups
  pub events : All (IsEvent p) p.events
  pub first_meets : AreFirstMeets 0 p.events
  pub constraints : All (IsConstraint p) p.constraints
  pub monitors : AreMonitors p
  pub unit : IsUnit (map (λ e. e.duration) p.events) p.unit
  pub limits : AreWithinLimits p
