-- No deviation of a monitor in a state is above the greatest one that the limits allow.
use Rattle.std.proofs.Common.{◌≡◌, sym, subst, refl, ℕ, ◌*◌, ◌/◌, ◌≤◌, ◌&&◌, cond, inl, inr, Option, Some, None, List}
use Rattle.std.proofs.Common.{length, get_or, All, arith, slice_get, le_trans}
use Rattle.std.specs.Option.{option_map_or}
use Rattle.std.proofs.lemmas.Bool.{cond_both}
use Rattle.std.proofs.lemmas.List.Sums.{sum_by-le, count_by-le-length}
use Rattle.std.proofs.lemmas.Nat.{mul-le}
use Rattle.std.proofs.lemmas.Option.{slice_get_cases}
use Rattle.khe_base.specs.declared.limits.TheConstants.{GREATEST_DEVIATION, NUMBER, TASKS}
use Rattle.khe_instance.specs.Deviation.{deviation, deviation_at, group_deviation}
use Rattle.khe_instance.specs.ResourceDeviation.{workload_in, workload_of}
use Rattle.khe_instance.specs.Running.{is_resource, running_tasks, runs}
use Rattle.khe_instance.specs.States.{AreDuties, AreOfState, IsDuty}
use Rattle.khe_instance.specs.WellMade.{AreWellMade, IsMonitor, IsRule}
use Rattle.khe_instance.specs.declared.parts.EventInfo.{EventInfo}
use Rattle.khe_instance.specs.declared.parts.GroupInfo.{GroupInfo}
use Rattle.khe_instance.specs.declared.parts.Parts.{Parts}
use Rattle.khe_instance.specs.declared.parts.Place.{Place}
use Rattle.khe_instance.specs.declared.points.Monitor.{Monitor}
use Rattle.khe_instance.specs.declared.points.Point.{Point}
use Rattle.khe_instance.specs.declared.points.Point.TheVariants.{Event, EventResource, EventGroup, EventPair as Pair}
use Rattle.khe_instance.specs.declared.points.Point.TheVariants.{Resource}
use Rattle.khe_instance.specs.declared.rules.Constraint.{Constraint}
use Rattle.khe_instance.specs.declared.rules.Rule.{Rule}
use Rattle.khe_instance.specs.declared.states.Duty.{Duty}
use Rattle.khe_instance.specs.declared.states.Meet.{Meet}
use Rattle.khe_instance.proofs.DutiesLemmas.{are-duties}
use Rattle.khe_instance.proofs.EventBounds.{event-small, place-small, group-small, pair-small}
use Rattle.khe_instance.proofs.MadeLemmas.{constraint_made, event_made, worth_small}
use Rattle.khe_instance.proofs.MeetsLemmas.{few-meets, short-meets}
use Rattle.khe_instance.proofs.ResourceBounds.{measured-small}

-- no task is worth more than the greatest workload
worth_of_duty : (p : Parts) → AreWellMade p → (d : Duty) → IsDuty p d → workload_of p.events p.unit d ≤ NUMBER * p.unit
worth_of_duty p made d duty = by_event (slice_get p.events d.meet.event.0) refl
  where
    by_place : (event : EventInfo) → slice_get p.events d.meet.event.0 ≡ Some event
        → option_map_or (λ place. place.workload * d.meet.duration * (p.unit / event.duration))
        (slice_get event.places d.place) 0 ≤ NUMBER * p.unit
    by_place event there = elim (slice_get_cases event.places d.place).1 [
      | inl found ↦
          let place : Place = found.0 in
          subst (λ (o : Option Place). option_map_or (λ place.
          place.workload * d.meet.duration * (p.unit / event.duration)) o 0 ≤ NUMBER * p.unit) (sym found.2)
          (worth_small p made d duty event there event.places refl d.place place found.1 (sym found.3))
      | inr past ↦ subst (λ (o : Option Place). option_map_or
          (λ place. place.workload * d.meet.duration * (p.unit / event.duration)) o 0 ≤ NUMBER * p.unit) (sym past.1)
          (omega arith)
    ]

    by_event : (o : Option EventInfo) → slice_get p.events d.meet.event.0 ≡ o
        → option_map_or (λ event. option_map_or (λ place. place.workload * d.meet.duration * (p.unit / event.duration))
        (slice_get event.places d.place) 0) o 0 ≤ NUMBER * p.unit
    by_event None there = omega arith
    by_event (Some event) there = by_place event there

-- nor are all tasks of a resource together worth more than the greatest deviation
worth_together : (p : Parts) → AreWellMade p → (ds : List Duty) → AreDuties p ds → (r : ℕ)
    → workload_in p.events p.unit ds r ≤ GREATEST_DEVIATION * p.unit
worth_together p made ds are r =
    let worth : Duty → ℕ = λ d. workload_of p.events p.unit d in
    let most = NUMBER * p.unit in
    let each : All (λ d. cond (is_resource r d.resource) (worth d) 0 ≤ most) ds =
    λ k d l. (let x = get_or ds k d in
    cond_both (is_resource r x.resource) (worth x) 0 (λ n. n ≤ most) (λ _. worth_of_duty p made x (are.each k d l))
    (λ _. omega arith))
    in
    let total : workload_in p.events p.unit ds r ≤ length ds * most =
    sum_by-le (λ d. cond (is_resource r d.resource) (worth d) 0) most ds each in
    let few : length ds * most ≤ TASKS * most = mul-le (length ds) most TASKS most are.few (omega arith) in
    omega arith

module _ (p : Parts) (ms : List Meet) (ds : List Duty) (made : AreWellMade p) (state : AreOfState p ms ds) where
  duties : AreDuties p ds
  duties = are-duties p ms ds made state

  short-duties : All (λ d. d.meet.duration ≤ NUMBER) ds
  short-duties k d l =
      let duty = duties.each k d l in
      le_trans duty.part ((event_made p made (get_or ds k d).meet.event.0 duty.event duty.there).duration.1)

  running-few : (r t : ℕ) → running_tasks ds r t ≤ TASKS
  running-few r t = le_trans (count_by-le-length (λ d. is_resource r d.resource && runs d.meet t) ds) duties.few

  -- no deviation at a point is above it
  at_point : (rule : Rule) (point : Point) → IsRule p rule → deviation_at p ms ds rule point ≤ GREATEST_DEVIATION
  at_point rule (Event e) h = event-small ms (few-meets p ms state.tasks made state.told)
      (short-meets p ms state.tasks made state.told) e.0 p rule h
  at_point rule (EventResource e place) h = place-small ds duties.few short-duties e.0 place rule
  at_point rule (EventGroup g) h = by (slice_get p.groups g)
    where
      by : (o : Option GroupInfo) → option_map_or (λ group. group_deviation p ms ds rule group.events) o
          0 ≤ GREATEST_DEVIATION
      by None = omega arith
      by (Some group) = group-small p made.limits ms ds (few-meets p ms state.tasks made state.told) group.events rule h
  at_point rule (Pair k) h = pair-small p made.limits ms (λ i d l. (state.told.meets i d l).ends) k rule h
  at_point rule (Resource r) h =
      measured-small p (running_tasks ds r.0) (workload_in p.events p.unit ds r.0) made.limits made.unit.positive
      (running-few r.0) (worth_together p made ds duties r.0) rule h

-- nor is a monitor's, which is its rule's at its point
pub deviation_small : (p : Parts) (ms : List Meet) (ds : List Duty) (m : Monitor) → AreWellMade p → AreOfState p ms ds
    → IsMonitor p m → deviation p ms ds m ≤ GREATEST_DEVIATION
deviation_small p ms ds m made state (c, there, kind, point) =
    subst (λ (o : Option Constraint). option_map_or (λ x. deviation_at p ms ds x.rule m.point) o 0 ≤ GREATEST_DEVIATION)
    (sym there)
    (at_point p ms ds made state c.rule m.point (constraint_made p made m.constraint c there).rule)
