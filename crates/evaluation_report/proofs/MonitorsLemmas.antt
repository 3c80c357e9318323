-- What the text of a monitor looks up is there.
use Rattle.std.proofs.Common.{◌≡◌, ℕ, ◌<◌, Some, List, length, subst, slice_get}
use Rattle.std.proofs.lemmas.Option.{slice_get_within, get_or_from_slice_get}
use Rattle.khe_instance.specs.WellMade.{AreWellMade, IsConstraint, IsRule, IsPointOf, IsSinglePoint, IsPlacePoint}
use Rattle.khe_instance.specs.WellMade.{IsGroupPoint, IsPairPoint, IsResourcePoint}
use Rattle.khe_instance.specs.declared.parts.Parts.{Parts}
use Rattle.khe_instance.specs.declared.points.Monitor.{Monitor}
use Rattle.khe_instance.specs.declared.points.Point.{Point}
use Rattle.khe_instance.specs.declared.points.Point.TheVariants.{Event, EventResource, EventGroup, EventPair as Pair}
use Rattle.khe_instance.specs.declared.points.Point.TheVariants.{Resource}
use Rattle.khe_instance.specs.declared.rules.Constraint.{Constraint}
use Rattle.khe_instance.specs.declared.rules.EventPair.{EventPair}
use Rattle.khe_instance.specs.declared.rules.Rule.{Rule}
use Rattle.khe_instance.specs.declared.rules.Rule.TheVariants.{AssignTime, AssignResource, SplitEvents}
use Rattle.khe_instance.specs.declared.rules.Rule.TheVariants.{DistributeSplitEvents, PreferTimes, PreferResources}
use Rattle.khe_instance.specs.declared.rules.Rule.TheVariants.{AvoidSplitAssignments, SpreadEvents, LinkEvents}
use Rattle.khe_instance.specs.declared.rules.Rule.TheVariants.{OrderEvents, AvoidClashes, AvoidUnavailableTimes}
use Rattle.khe_instance.specs.declared.rules.Rule.TheVariants.{LimitIdleTimes, ClusterBusyTimes, LimitBusyTimes}
use Rattle.khe_instance.specs.declared.rules.Rule.TheVariants.{LimitWorkload}
use Rattle.evaluation_report.specs.Points.{IsNamed}
use Rattle.khe_instance.proofs.MadeLemmas.{monitor_made}
use Rattle.khe_instance.proofs.WatchedLaws.{with-role}

single-named : (p : Parts) (point : Point) → IsSinglePoint p point → IsNamed p point
single-named p (Event e) h = h
single-named p _ h = absurd h

place-named : (p : Parts) (role : List ℕ) (point : Point) → IsPlacePoint p role point → IsNamed p point
place-named p role (EventResource e place) h = with-role p.events e.0 place role h
place-named p role _ h = absurd h

group-named : (p : Parts) (point : Point) → IsGroupPoint p point → IsNamed p point
group-named p (EventGroup g) h = h
group-named p _ h = absurd h

resource-named : (p : Parts) (point : Point) → IsResourcePoint p point → IsNamed p point
resource-named p (Resource r) h = h
resource-named p _ h = absurd h

pair-named : (p : Parts) (pairs : List EventPair) (point : Point) → IsPairPoint pairs point → IsNamed p point
pair-named p pairs (Pair k) h = tt
pair-named p pairs _ h = absurd h

-- the point of a monitor names what is there
point-named : (p : Parts) (rule : Rule) (point : Point) → IsPointOf p rule point → IsNamed p point
point-named p AssignTime point h = single-named p point h
point-named p (AssignResource role) point h = place-named p role point h
point-named p (SplitEvents a b c d) point h = single-named p point h
point-named p (DistributeSplitEvents d least greatest) point h = single-named p point h
point-named p (PreferTimes times duration) point h = single-named p point h
point-named p (PreferResources resources role) point h = place-named p role point h
point-named p (AvoidSplitAssignments role) point h = group-named p point h
point-named p (SpreadEvents spreads) point h = group-named p point h
point-named p LinkEvents point h = group-named p point h
point-named p (OrderEvents pairs) point h = pair-named p pairs point h
point-named p AvoidClashes point h = resource-named p point h
point-named p (AvoidUnavailableTimes times) point h = resource-named p point h
point-named p (LimitIdleTimes groups least greatest) point h = resource-named p point h
point-named p (ClusterBusyTimes groups least greatest) point h = resource-named p point h
point-named p (LimitBusyTimes groups least greatest) point h = resource-named p point h
point-named p (LimitWorkload least greatest) point h = resource-named p point h

-- its constraint is there
pub constraint-within : (p : Parts) → AreWellMade p → (number : ℕ) (m : Monitor) → slice_get p.monitors number ≡ Some m
    → m.constraint < length p.constraints
constraint-within p made number m e =
    let is = monitor_made p made number m e in slice_get_within p.constraints m.constraint is.0 is.1

-- and so is what its point names
pub monitor-named : (p : Parts) → AreWellMade p → (number : ℕ) (m : Monitor) → slice_get p.monitors number ≡ Some m
    → IsNamed p m.point
monitor-named p made number m e =
    let is = monitor_made p made number m e in point-named p is.0.rule m.point is.3

-- what a constraint of an instance says is in range
pub constraint-rule : (p : Parts) → AreWellMade p → (number : ℕ) (c : Constraint)
    → slice_get p.constraints number ≡ Some c → IsRule p c.rule
constraint-rule p made number c e =
    let is : IsConstraint p c = subst (IsConstraint p) (get_or_from_slice_get p.constraints number c c e)
    (made.constraints number c (slice_get_within p.constraints number c e)) in is.rule
