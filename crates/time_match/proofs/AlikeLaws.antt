-- What a resource given to a task changes of deviations: at the resource the same for tasks that are alike, and
-- elsewhere the same for all resources, but for the monitors that tell the task's resources apart.
use Rattle.std.proofs.Common.{ℕ, ◌≡◌, ◌+◌, ◌-◌, ◌==◌, ◌&&◌, Bool, true, false, cond, Option, Some, None, List, [], ◌∷◌}
use Rattle.std.proofs.Common.{length, slice_get, sum_by, refl, sym, ap, ◌∙◌, arith}
use Rattle.std.specs.List.{count_by, filter, list_any, range_with_len}
use Rattle.std.specs.Option.{option_map_or}
use Rattle.std.specs.Prelude.{not}
use Rattle.std.proofs.lemmas.Bool.{and_left, true≢false}
use Rattle.std.proofs.lemmas.List.Sums.{sum_by-cons}
use Rattle.khe_base.specs.IdSet.{has_member}
use Rattle.khe_base.specs.declared.numbers.EventId.{EventId}
use Rattle.khe_base.specs.declared.numbers.ResourceId.{ResourceId}
use Rattle.khe_base.specs.declared.numbers.TaskId.{TaskId}
use Rattle.khe_instance.specs.Deviation.{deviation_at, event_deviation, group_deviation, measured, pair_deviation}
use Rattle.khe_instance.specs.Deviation.{place_deviation}
use Rattle.khe_instance.specs.EventDeviation.{assign_resource, avoid_split_assignments, duties_at, misfilled_duration}
use Rattle.khe_instance.specs.EventDeviation.{link_events, prefer_resources, spread_events, unfilled_duration}
use Rattle.khe_instance.specs.Lookups.{is_role, role_at}
use Rattle.khe_instance.specs.ResourceDeviation.{workload_in, workload_of}
use Rattle.khe_instance.specs.Running.{covers, is_resource, running_tasks, runs}
use Rattle.khe_instance.specs.declared.parts.GroupInfo.{GroupInfo}
use Rattle.khe_instance.specs.declared.parts.Parts.{Parts}
use Rattle.khe_instance.specs.declared.points.Monitor.{Monitor}
use Rattle.khe_instance.specs.declared.points.Point.{Point}
use Rattle.khe_instance.specs.declared.points.Point.TheVariants.{Event, EventResource, EventGroup, EventPair, Resource}
use Rattle.khe_instance.specs.declared.rules.Constraint.{Constraint}
use Rattle.khe_instance.specs.declared.rules.Rule.{Rule}
use Rattle.khe_instance.specs.declared.rules.Rule.TheVariants.{AssignResource}
use Rattle.khe_instance.specs.declared.rules.Rule.TheVariants.{PreferResources}
use Rattle.khe_instance.specs.declared.rules.Rule.TheVariants.{AvoidSplitAssignments, SpreadEvents, LinkEvents}
use Rattle.khe_instance.specs.declared.states.Duty.{Duty}
use Rattle.khe_solution.specs.Editing.{staffed}
use Rattle.khe_told.specs.Agreement.{deviation_in}
use Rattle.khe_told.specs.Lists.{duties_in, meets_in}
use Rattle.khe_told.specs.Slots.{length_of, slot_at}
use Rattle.khe_told.specs.declared.slots.Slot.{Slot}
use Rattle.time_match.specs.Alike.{AreAlike, duty_in, is_avoiding_splits, is_preference, prefers, prefers_at, unites}
use Rattle.time_match.specs.Alike.{IsBare, unites_at}
use Rattle.time_match.proofs.DutyLaws.{duties_left, given_once, meets_staffed}

-- whether a point is a resource
abbrev pub at_resource : Point → Bool
at_resource (Resource r) = true
at_resource _ = false

-- the slots once it is given one
abbrev pub with_it : List Slot → TaskId → ResourceId → List Slot
with_it s t r = staffed s t (Some r)

-- two tasks that are alike leave the resources the same counts and the same workloads
same_counts : (p : Parts) (s : List Slot) (a b : TaskId) (r : ResourceId) (q time : ℕ) → IsBare s a → IsBare s b
    → AreAlike p s a b
    → running_tasks (duties_in (with_it s a r)) q time ≡ running_tasks (duties_in (with_it s b r)) q time
same_counts p s a b r q time ha hb like =
    let f : Duty → ℕ = λ d. cond (is_resource q d.resource && runs d.meet time) 1 0 in
    let x = given_once f s a (Some r) ha.there ha.none in
    let y = given_once f s b (Some r) hb.there hb.none in
    let e : f (duty_in (slot_at s a.meet.0) a.place (Some r)) ≡ f (duty_in (slot_at s b.meet.0) b.place (Some r)) =
    (λ i. cond ((r.0 == q) && covers (like.duration i) (like.start i) time) 1 0) in
    omega (arith, x, y, e)

same_workloads : (p : Parts) (s : List Slot) (a b : TaskId) (r : ResourceId) (q : ℕ) → IsBare s a → IsBare s b
    → AreAlike p s a b
    → workload_in p.events p.unit (duties_in (with_it s a r)) q
    ≡ workload_in p.events p.unit (duties_in (with_it s b r)) q
same_workloads p s a b r q ha hb like =
    let f : Duty → ℕ = λ d. cond (is_resource q d.resource) (workload_of p.events p.unit d) 0 in
    let x = given_once f s a (Some r) ha.there ha.none in
    let y = given_once f s b (Some r) hb.there hb.none in
    let e : f (duty_in (slot_at s a.meet.0) a.place (Some r)) ≡ f (duty_in (slot_at s b.meet.0) b.place (Some r)) =
    (λ i. cond (r.0 == q) (like.worth i) 0) in
    omega (arith, x, y, e)

pub at_resources : (p : Parts) (s : List Slot) (a b : TaskId) (r q : ResourceId) (rule : Rule) → IsBare s a
    → IsBare s b → AreAlike p s a b
    → deviation_at p (meets_in (with_it s a r)) (duties_in (with_it s a r)) rule (Resource q)
    ≡ deviation_at p (meets_in (with_it s b r)) (duties_in (with_it s b r)) rule (Resource q)
at_resources p s a b r q rule ha hb like =
    λ i. measured p rule (λ time. same_counts p s a b r q.0 time ha hb like i)
    (same_workloads p s a b r q.0 ha hb like i)

-- sums over the duties at a place
sum_left : (f : Duty → ℕ) (test : Duty → Bool) (ds : List Duty)
    → sum_by f (filter test ds) ≡ sum_by (λ d. cond (test d) (f d) 0) ds
sum_left f test [] = refl
sum_left f test (d ∷ ds) =
    by (test d) ∙ ap (λ n. cond (test d) (f d) 0 + n) (sum_left f test ds)
    ∙ sym (sum_by-cons (λ e. cond (test e) (f e) 0) d ds)
  where
    by : (c : Bool) → sum_by f (cond c (d ∷ filter test ds) (filter test ds))
        ≡ cond c (f d) 0 + sum_by f (filter test ds)
    by true = sum_by-cons f d (filter test ds)
    by false = let z : sum_by f (filter test ds) ≡ 0 + sum_by f (filter test ds) = omega arith in z

abbrev at_event : ℕ → ℕ → Duty → Bool
at_event e place d = (d.meet.event.0 == e) && (d.place == place)

module _ (s : List Slot) (t : TaskId) (bare : IsBare s t) where
  abbrev x : Slot
  x = slot_at s t.meet.0

  -- a sum over the duties at a place once a resource is given
  at_place : (f : Duty → ℕ) (e place : ℕ) (r : ResourceId)
      → sum_by f (duties_at e place (duties_in (with_it s t r)))
      + cond (at_event e place (duty_in x t.place None)) (f (duty_in x t.place None)) 0
      ≡ sum_by f (duties_at e place (duties_in s))
      + cond (at_event e place (duty_in x t.place (Some r))) (f (duty_in x t.place (Some r))) 0
  at_place f e place r =
      let g : Duty → ℕ = λ d. cond (at_event e place d) (f d) 0 in
      let a = sum_left f (at_event e place) (duties_in (with_it s t r)) in
      let b = sum_left f (at_event e place) (duties_in s) in
      let c = given_once g s t (Some r) bare.there bare.none in
      omega (arith, a, b, c)

  same_filled : (e place : ℕ) (r q : ResourceId)
      → assign_resource (duties_in (with_it s t r)) e place ≡ assign_resource (duties_in (with_it s t q)) e place
  same_filled e place r q =
      let f : Duty → ℕ = λ d. unfilled_duration d.resource d.meet.duration in
      let a = at_place f e place r in
      let b = at_place f e place q in
      omega (arith, a, b)

  -- preferences at another place, and at this one
  same_preferred : (e place : ℕ) (set : List Bool) (r q : ResourceId)
      → ((x.event.0 == e) && (t.place == place)) ≡ false
      → prefer_resources (duties_in (with_it s t r)) e place set
      ≡ prefer_resources (duties_in (with_it s t q)) e place set
  same_preferred e place set r q h =
      let f : Duty → ℕ = λ d. misfilled_duration set d.resource d.meet.duration in
      let a = at_place f e place r in
      let b = at_place f e place q in
      let c = ap {B = ℕ} (λ b. cond b (f (duty_in x t.place (Some r))) 0) h in
      let d = ap {B = ℕ} (λ b. cond b (f (duty_in x t.place (Some q))) 0) h in
      omega (arith, a, b, c, d)

  pub preferred : (e place : ℕ) (set : List Bool) (r : ResourceId) → ((x.event.0 == e) && (t.place == place)) ≡ true
      → prefer_resources (duties_in (with_it s t r)) e place set
      ≡ prefer_resources (duties_in s) e place set + cond (has_member set r.0) 0 (length_of x)
  preferred e place set r h =
      let f : Duty → ℕ = λ d. misfilled_duration set d.resource d.meet.duration in
      let a = at_place f e place r in
      let b : cond (at_event e place (duty_in x t.place (Some r))) (f (duty_in x t.place (Some r))) 0
      ≡ f (duty_in x t.place (Some r)) = ap {B = ℕ} (λ b. cond b (f (duty_in x t.place (Some r))) 0) h in
      let d : f (duty_in x t.place (Some r)) ≡ cond (has_member set r.0) 0 (length_of x) = by (has_member set r.0) in
      let c : cond (at_event e place (duty_in x t.place None)) (f (duty_in x t.place None)) 0 ≡ 0 =
      ap {B = ℕ} (λ b. cond b (f (duty_in x t.place None)) 0) h in
      omega (arith, a, b, c, d)
    where
      by : (m : Bool) → cond (not m) (length_of x) 0 ≡ cond m 0 (length_of x)
      by true = refl
      by false = refl

  same_meets : (r q : ResourceId) → meets_in (with_it s t r) ≡ meets_in (with_it s t q)
  same_meets r q = meets_staffed s t (Some r) ∙ sym (meets_staffed s t (Some q))

  -- a group without the event
  united : (p : Parts) (group : List Bool) (role : List ℕ) (o : Option ResourceId) → has_member group x.event.0 ≡ false
      → avoid_split_assignments p.events (length p.resources) (duties_in (staffed s t o)) group role
      ≡ avoid_split_assignments p.events (length p.resources) (duties_in s) group role
  united p group role o h =
      ap (λ (there : List Duty). count_by (λ r. list_any (λ (d : Duty). is_resource r d.resource) there)
      (range_with_len 0 (length p.resources)) - 1)
      (duties_left (λ d. has_member group d.meet.event.0 && is_role role (role_at p.events d.meet.event.0 d.place)) s t
      o
      (λ d e. and_left _ _ (ap (λ (n : EventId). has_member group n.0) e ∙ h)))

  in_group : (p : Parts) (rule : Rule) (group : List Bool) (r q : ResourceId)
      → (is_avoiding_splits rule && has_member group x.event.0) ≡ false
      → group_deviation p (meets_in (with_it s t r)) (duties_in (with_it s t r)) rule group
      ≡ group_deviation p (meets_in (with_it s t q)) (duties_in (with_it s t q)) rule group
  in_group p (AvoidSplitAssignments role) group r q h =
      united p group role (Some r) h ∙ sym (united p group role (Some q) h)
  in_group p (SpreadEvents spreads) group r q h = ap (λ ms. spread_events ms group spreads) (same_meets r q)
  in_group p LinkEvents group r q h = ap (λ ms. link_events ms (length p.times) group) (same_meets r q)
  in_group p _ group r q h = refl

  at_place_of : (rule : Rule) (e place : ℕ) (r q : ResourceId)
      → (is_preference rule && ((x.event.0 == e) && (t.place == place))) ≡ false
      → place_deviation (duties_in (with_it s t r)) rule e place
      ≡ place_deviation (duties_in (with_it s t q)) rule e place
  at_place_of (AssignResource role) e place r q h = same_filled e place r q
  at_place_of (PreferResources set role) e place r q h = same_preferred e place set r q h
  at_place_of _ e place r q h = refl

  elsewhere : (p : Parts) (rule : Rule) (point : Point) (r q : ResourceId)
      → prefers_at rule point x.event.0 t.place ≡ false → unites_at p rule point x.event.0 ≡ false
      → at_resource point ≡ false
      → deviation_at p (meets_in (with_it s t r)) (duties_in (with_it s t r)) rule point
      ≡ deviation_at p (meets_in (with_it s t q)) (duties_in (with_it s t q)) rule point
  elsewhere p rule (Event e) r q h g n = ap (λ ms. event_deviation ms rule e.0) (same_meets r q)
  elsewhere p rule (EventResource e place) r q h g n = at_place_of rule e.0 place r q h
  elsewhere p rule (EventGroup number) r q h g n = by (slice_get p.groups number) g
    where
      by : (o : Option GroupInfo)
          → (is_avoiding_splits rule
          && option_map_or (λ (group : GroupInfo). has_member group.events x.event.0) o false) ≡ false
          → option_map_or (λ (group : GroupInfo). group_deviation p (meets_in (with_it s t r))
          (duties_in (with_it s t r)) rule group.events) o 0
          ≡ option_map_or (λ (group : GroupInfo). group_deviation p (meets_in (with_it s t q))
          (duties_in (with_it s t q)) rule group.events) o 0
      by None h2 = refl
      by (Some group) h2 = in_group p rule group.events r q h2
  elsewhere p rule (EventPair k) r q h g n = ap (λ ms. pair_deviation ms rule k) (same_meets r q)
  elsewhere p rule (Resource y) r q h g n = absurd (true≢false n)

-- what a monitor without preferences among a task's resources costs, by its deviation
abbrev pub rest_of : Parts → List Slot → TaskId → (ℕ → ℕ) → Monitor → ResourceId → ℕ
rest_of p s t g m r = cond (not (prefers p s t m)) (g (deviation_in p (with_it s t r) m)) 0

-- two tasks that are alike, each with one of two resources, leave together what they leave with them exchanged
module _ (p : Parts) (s : List Slot) (a b : TaskId) (r q : ResourceId) (ha : IsBare s a) (hb : IsBare s b)
    (like : AreAlike p s a b) (g : ℕ → ℕ) where
  abbrev rest : TaskId → Point → Option Constraint → ResourceId → ℕ
  rest t point o u =
      cond (not (option_map_or (λ (c : Constraint). prefers_at c.rule point (slot_at s t.meet.0).event.0 t.place) o
      false))
      (g (option_map_or (λ (c : Constraint). deviation_at p (meets_in (with_it s t u)) (duties_in (with_it s t u))
      c.rule point) o 0)) 0

  abbrev is_united : TaskId → Point → Option Constraint → Bool
  is_united t point o =
      option_map_or (λ (c : Constraint). unites_at p c.rule point (slot_at s t.meet.0).event.0) o false

  still : (t : TaskId) (point : Point) (o : Option Constraint) → IsBare s t → at_resource point ≡ false
      → is_united t point o ≡ false → rest t point o r ≡ rest t point o q
  still t point None h n u = refl
  still t point (Some c) h n u = by (prefers_at c.rule point (slot_at s t.meet.0).event.0 t.place) refl
    where
      by : (w : Bool) → prefers_at c.rule point (slot_at s t.meet.0).event.0 t.place ≡ w
          → cond (not w) (g (deviation_at p (meets_in (with_it s t r)) (duties_in (with_it s t r)) c.rule point)) 0
          ≡ cond (not w) (g (deviation_at p (meets_in (with_it s t q)) (duties_in (with_it s t q)) c.rule point)) 0
      by true e = refl
      by false e = ap g (elsewhere s t h p c.rule point r q e u n)

  four_at : (point : Point) (o : Option Constraint) → is_united a point o ≡ false → is_united b point o ≡ false
      → rest a point o r + rest b point o q ≡ rest a point o q + rest b point o r
  four_at (Resource y) None u v = refl
  four_at (Resource y) (Some c) u v =
      let x = ap g (at_resources p s a b r y c.rule ha hb like) in
      let z = ap g (at_resources p s a b q y c.rule ha hb like) in
      omega (arith, x, z)
  four_at point o u v =
      let x = still a point o ha refl u in
      let z = still b point o hb refl v in
      omega (arith, x, z)

  pub four_monitor : (m : Monitor) → unites p s a m ≡ false → unites p s b m ≡ false
      → rest_of p s a g m r + rest_of p s b g m q ≡ rest_of p s a g m q + rest_of p s b g m r
  four_monitor m u v = four_at m.point (slice_get p.constraints m.constraint) u v
