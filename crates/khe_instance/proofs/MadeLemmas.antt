-- What well made parts give of one event, constraint, monitor or task.
use Rattle.std.proofs.Common.{◌≡◌, ◌∙◌, sym, subst, ℕ, ◌*◌, ◌/◌, ◌<◌, ◌≤◌, Some, List, length, get_or, slice_get}
use Rattle.std.proofs.lemmas.Option.{same_Some, get_or_from_slice_get, slice_get_within}
use Rattle.khe_base.specs.declared.limits.TheConstants.{NUMBER}
use Rattle.khe_base.specs.declared.numbers.ResourceId.{ResourceId}
use Rattle.khe_instance.specs.WellMade.{AreWellMade, IsConstraint, IsEvent, IsMonitor, IsPlace, IsPointOf}
use Rattle.khe_instance.specs.declared.parts.EventInfo.{EventInfo}
use Rattle.khe_instance.specs.declared.parts.Parts.{Parts}
use Rattle.khe_instance.specs.declared.parts.Place.{Place}
use Rattle.khe_instance.specs.declared.points.Monitor.{Monitor}
use Rattle.khe_instance.specs.declared.points.Point.TheVariants.{Resource}
use Rattle.khe_instance.specs.declared.rules.Constraint.{Constraint}
use Rattle.khe_instance.specs.declared.rules.Rule.{Rule}
use Rattle.khe_instance.specs.declared.rules.Rule.TheVariants.{AvoidClashes, AvoidUnavailableTimes, LimitIdleTimes}
use Rattle.khe_instance.specs.declared.rules.Rule.TheVariants.{ClusterBusyTimes, LimitBusyTimes, LimitWorkload}
use Rattle.khe_instance.specs.declared.states.Duty.{Duty}
use Rattle.khe_instance.specs.States.{IsDuty}
use Rattle.khe_instance.proofs.SumsLemmas.{part_small}

-- an event of the instance is one
pub event_made : (p : Parts) → AreWellMade p → (e : ℕ) (event : EventInfo) → slice_get p.events e ≡ Some event
    → IsEvent p event
event_made p made e event there = subst (IsEvent p) (get_or_from_slice_get p.events e event event there)
    (made.events e event (slice_get_within p.events e event there))

-- a constraint of the instance is one
pub constraint_made : (p : Parts) → AreWellMade p → (k : ℕ) (c : Constraint) → slice_get p.constraints k ≡ Some c
    → IsConstraint p c
constraint_made p made k c there = subst (IsConstraint p) (get_or_from_slice_get p.constraints k c c there)
    (made.constraints k c (slice_get_within p.constraints k c there))

-- a task is worth no more than its place
pub worth_small : (p : Parts) → AreWellMade p → (d : Duty) → IsDuty p d → (event : EventInfo)
    → slice_get p.events d.meet.event.0 ≡ Some event
    → (places : List Place) → places ≡ event.places → (k : ℕ) (place : Place) → k < length places
    → place ≡ get_or places k place
    → place.workload * d.meet.duration * (p.unit / event.duration) ≤ NUMBER * p.unit
worth_small p made d duty event there places same k place h is =
    let e : duty.event ≡ event = same_Some duty.event event (sym duty.there ∙ there) in
    let part : d.meet.duration ≤ event.duration = subst (λ (x : EventInfo). d.meet.duration ≤ x.duration) e duty.part in
    let it : IsPlace p (get_or places k place) = subst (λ (xs : List Place). IsPlace p (get_or xs k place)) (sym same)
    ((event_made p made d.meet.event.0 event there).places k place
    (subst (λ (xs : List Place). k < length xs) same h)) in
    let few : place.workload ≤ NUMBER = (subst (IsPlace p) (sym is) it).workload in
    part_small NUMBER place.workload d.meet.duration event.duration p.unit few part

-- a monitor's resource is one of the instance
at_resource : (p : Parts) (rule : Rule) (r : ResourceId) → IsPointOf p rule (Resource r) → r.0 < length p.resources
at_resource p AvoidClashes r h = h
at_resource p (AvoidUnavailableTimes times) r h = h
at_resource p (LimitIdleTimes groups least greatest) r h = h
at_resource p (ClusterBusyTimes groups least greatest) r h = h
at_resource p (LimitBusyTimes groups least greatest) r h = h
at_resource p (LimitWorkload least greatest) r h = h
at_resource p _ r h = absurd h

pub monitored : (p : Parts) (m : Monitor) (r : ResourceId) → IsMonitor p m → m.point ≡ Resource r
    → r.0 < length p.resources
monitored p m r (c, there, kind, point) e = at_resource p c.rule r (subst (IsPointOf p c.rule) e point)

-- a monitor of the instance is one
pub monitor_made : (p : Parts) → AreWellMade p → (i : ℕ) (m : Monitor) → slice_get p.monitors i ≡ Some m → IsMonitor p m
monitor_made p made i m there = subst (IsMonitor p) (get_or_from_slice_get p.monitors i m m there)
    (made.monitors.each i m (slice_get_within p.monitors i m there))
