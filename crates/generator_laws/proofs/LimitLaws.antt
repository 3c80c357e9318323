-- The archive that is made is within all limits.
use Rattle.std.proofs.Common.{ℕ, ◌≡◌, ◌+◌, ◌*◌, ◌≤◌, cond, if◌then◌else◌, nat_lt}
use Rattle.std.proofs.Common.{Option, Some, None, List, [], ◌∷◌, All, length, map, flat_map}
use Rattle.std.proofs.Common.{refl, ap, ◌∙◌, arith, length-append}
use Rattle.std.specs.List.{enumerate_from, find, sum_by}
use Rattle.std.specs.Option.{option_map, option_or}
use Rattle.std.specs.Prelude.{codes}
use Rattle.std.proofs.lemmas.Bool.{le-ltb}
use Rattle.std.proofs.lemmas.List.{length-map}
use Rattle.std.proofs.lemmas.List.Elements.{All-head, All-tail, All-map, All-weaker}
use Rattle.std.proofs.lemmas.List.FromFn.{length-map-range_with_len}
use Rattle.khe_base.specs.declared.limits.TheConstants.{TIMES, TIME_GROUPS, RESOURCE_TYPES, RESOURCES, RESOURCE_GROUPS}
use Rattle.khe_base.specs.declared.limits.TheConstants.{EVENTS, EVENT_GROUPS, CONSTRAINTS, DURATION, TASKS, CELLS}
use Rattle.khe_base.specs.declared.limits.TheConstants.{LISTED, MONITORS, WATCHES, UNIT}
use Rattle.khe_instance.specs.Kinds.{kind_of}
use Rattle.xhstt_shape.specs.declared.constraints.RawConstraint.{RawConstraint}
use Rattle.xhstt_shape.specs.declared.records.RawEvent.{RawEvent}
use Rattle.xhstt_shape.specs.declared.records.RawInstance.{RawInstance}
use Rattle.xhstt_resolve.specs.Limits.{beyond, first_beyond, first_above, limit_fault, listed_groups, listings}
use Rattle.xhstt_resolve.specs.Limits.{task_count, total_duration, units, watch_count, watches_of}
use Rattle.xhstt_resolve.specs.Members.{listed_times}
use Rattle.xhstt_resolve.specs.Points.{monitor_of, monitors_at, monitors_of, points_of}
use Rattle.xhstt_resolve.specs.Rules.{rule_of}
use Rattle.xhstt_resolve.specs.Units.{running_units}
use Rattle.xhstt_resolve.specs.declared.faults.ResolveFault.{ResolveFault}
use Rattle.xhstt_resolve.specs.declared.faults.ResolveFault.TheVariants.{Limit}
use Rattle.fault_tables.specs.declared.limits.TheConstants.{TOO_MANY_TIMES, TOO_MANY_TIME_GROUPS}
use Rattle.fault_tables.specs.declared.limits.TheConstants.{TOO_MANY_RESOURCE_TYPES, TOO_MANY_RESOURCES}
use Rattle.fault_tables.specs.declared.limits.TheConstants.{TOO_MANY_RESOURCE_GROUPS, TOO_MANY_EVENTS}
use Rattle.fault_tables.specs.declared.limits.TheConstants.{TOO_MANY_EVENT_GROUPS, TOO_MANY_CONSTRAINTS}
use Rattle.fault_tables.specs.declared.limits.TheConstants.{TOO_LONG_DURATION, TOO_MANY_TASKS, TOO_MANY_CELLS}
use Rattle.fault_tables.specs.declared.limits.TheConstants.{TOO_MANY_LISTED, TOO_MANY_MONITORS, TOO_MANY_WATCHES}
use Rattle.fault_tables.specs.declared.limits.TheConstants.{TOO_GREAT_UNIT}
use Rattle.archive_generator.specs.declared.drawing.DrawnEvent.{DrawnEvent}
use Rattle.archive_generator.specs.Constraints as constraints
use Rattle.archive_generator.specs.Events as events
use Rattle.archive_generator.specs.Made as made
use Rattle.archive_generator.specs.Names.{below, to, to_each}
use Rattle.archive_generator.specs.Times as times
use Rattle.archive_generator.proofs.WellFormed.{IsShort}
use Rattle.generator_laws.proofs.ConstraintLaws.{Each, all_constraints}
use Rattle.generator_laws.proofs.DrawLaws.{AreDrawn}
use Rattle.generator_laws.proofs.IdLaws.{IsSize}
use Rattle.generator_laws.proofs.PointLaws.{IsFew, IsModest, on_events, on_groups, on_pairs, on_resources}
use Rattle.generator_laws.proofs.PointLaws.{groups_times, one_time}
use Rattle.generator_laws.proofs.SizeLaws as count
use Rattle.generator_laws.proofs.UnitLaws.{units_small}

-- a value that is not above the greatest is no fault
pub within : (which greatest value : ℕ) → value ≤ greatest → beyond which greatest value ≡ None
within which greatest value l = ap (λ b. if b then Some (Limit which value) else None) (le-ltb greatest value l)

all_within : (which greatest : ℕ) (values : List ℕ) → All (λ v. v ≤ greatest) values
    → first_beyond which greatest values ≡ None
all_within which greatest values h = ap (option_map (Limit which)) (none_found values h)
  where
    none_found : (vs : List ℕ) → All (λ v. v ≤ greatest) vs → find (nat_lt greatest) vs ≡ None
    none_found [] k = refl
    none_found (v ∷ vs) k =
        ap (λ b. cond b (Some v) (find (nat_lt greatest) vs)) (le-ltb greatest v (All-head (λ n. n ≤ greatest) v vs k))
        ∙ none_found vs (All-tail (λ n. n ≤ greatest) v vs k)

-- of faults of which none is there none is the first
pub neither : (fault following : Option ResolveFault) → fault ≡ None → following ≡ None
    → option_or fault following ≡ None
neither fault following h k = λ i. option_or (h i) (k i)

-- the monitors of constraints
few_monitors : (i : RawInstance) (k : ℕ) (cs : List RawConstraint) → All (λ c. length (points_of i c) ≤ 6000) cs
    → length (flat_map (monitors_at i) (enumerate_from k cs)) ≤ 6000 * length cs
few_monitors i k [] h = omega arith
few_monitors i k (c ∷ cs) h =
    let kind = kind_of (rule_of i c.applies c.rule) in
    let here = All-head (λ c. length (points_of i c) ≤ 6000) c cs h in
    let rest = few_monitors i (k + 1) cs (All-tail (λ c. length (points_of i c) ≤ 6000) c cs h) in
    let one = length-map (points_of i c) (monitor_of kind k) in
    let both = length-append (monitors_at i (k, c)) (flat_map (monitors_at i) (enumerate_from (k + 1) cs)) in
    omega arith

-- what the constraints of a job have and watch
record AreModest (i : RawInstance) (size : ℕ) : Type 0 where
  assign_time : IsModest i 6000 constraints.assign_time
  assign_resource : IsModest i 6000 constraints.assign_resource
  split_events : IsModest i 6000 constraints.split_events
  distribute : IsModest i 6000 constraints.distribute
  prefer_times : IsModest i 6000 constraints.prefer_times
  prefer_resources : IsModest i 6000 constraints.prefer_resources
  avoid_split : IsModest i 2002000 (constraints.avoid_split size)
  spread_events : IsModest i 2002000 (constraints.spread_events size)
  link_events : IsModest i 2002000 constraints.link_events
  order_events : IsModest i 202 (constraints.order_events size)
  avoid_clashes : IsModest i 160000 constraints.avoid_clashes
  avoid_unavailable : IsModest i 160000 constraints.avoid_unavailable
  limit_idle : IsModest i 160000 constraints.limit_idle
  cluster_busy : IsModest i 160000 constraints.cluster_busy
  limit_busy : IsModest i 160000 constraints.limit_busy
  limit_workload : IsModest i 160000 constraints.limit_workload

-- a sum over the constraints, one after the other
sum_of : (size : ℕ) (es : List DrawnEvent) (f : RawConstraint → ℕ)
    → sum_by f (made.instance size es).constraints
    ≡ 0 + f constraints.assign_time + f constraints.assign_resource + f constraints.split_events
    + f constraints.distribute + f constraints.prefer_times + f constraints.prefer_resources
    + f (constraints.avoid_split size) + f (constraints.spread_events size) + f constraints.link_events
    + f (constraints.order_events size) + f constraints.avoid_clashes + f constraints.avoid_unavailable
    + f constraints.limit_idle + f constraints.cluster_busy + f constraints.limit_busy + f constraints.limit_workload
unfolding made.instance constraints.constraints constraints.event_constraints constraints.part_constraints
    constraints.group_constraints constraints.resource_constraints constraints.load_constraints
sum_of size es f = refl

module _ (size : ℕ) (es : List DrawnEvent) (s : IsSize size) (drawn : AreDrawn size es) where
  few : IsFew (made.instance size es)
  few = record {
    times = count.time_count size es;
    resources = count.resource_count size es s;
    events = count.event_count size es s drawn;
    groups = count.event_group_count size es s;
    places = count.few_resources size es s drawn;
  }

  -- what constraints list

  days_few : length times.days ≤ 5
  unfolding times.days below
  days_few = omega arith

  listed : Each (λ c. listed_groups c.rule ≤ 5) size
  unfolding constraints.assign_time constraints.assign_resource constraints.split_events constraints.distribute
      constraints.prefer_times constraints.prefer_resources constraints.avoid_split constraints.spread_events
      constraints.link_events constraints.order_events constraints.avoid_clashes constraints.avoid_unavailable
      constraints.limit_idle constraints.cluster_busy constraints.limit_busy constraints.limit_workload
      constraints.spreads times.days below
  listed = record {
    assign_time = omega arith;
    assign_resource = omega arith;
    split_events = omega arith;
    distribute = omega arith;
    prefer_times = omega arith;
    prefer_resources = omega arith;
    avoid_split = omega arith;
    spread_events = omega arith;
    link_events = omega arith;
    order_events = omega arith;
    avoid_clashes = omega arith;
    avoid_unavailable = omega arith;
    limit_idle = omega arith;
    cluster_busy = omega arith;
    limit_busy = omega arith;
    limit_workload = omega arith;
  }

  listed_within : first_above TOO_MANY_LISTED (listings (made.instance size es)) ≡ None
  listed_within =
      let cs = (made.instance size es).constraints in
      let f = λ (c : RawConstraint). listed_groups c.rule in
      let each = all_constraints (λ c. listed_groups c.rule ≤ 5) size es listed in
      all_within TOO_MANY_LISTED LISTED (map f cs)
      (All-map (λ n. n ≤ LISTED) f cs
      (All-weaker (λ (c : RawConstraint). f c ≤ 5) (λ (c : RawConstraint). f c ≤ LISTED) (λ c l. omega arith) cs each))

  unit_within : first_above TOO_GREAT_UNIT (units (made.instance size es)) ≡ None
  unit_within =
      let ds = map (λ (e : RawEvent). e.duration) (made.instance size es).events in
      all_within TOO_GREAT_UNIT UNIT (running_units 1 ds)
      (All-weaker (λ n. n ≤ 6) (λ n. n ≤ UNIT) (λ n l. omega arith) (running_units 1 ds)
      (units_small ds (All-map IsShort (λ (e : RawEvent). e.duration) (made.instance size es).events
      (count.durations size es s drawn))))

  -- points and watches

  pairs_few : length (map constraints.pair (below (constraints.pair_count size))) ≤ 101
  unfolding below
  pairs_few =
      let is = length-map-range_with_len constraints.pair 0 (constraints.pair_count size) in
      let small = s.few in
      omega arith

  modest : AreModest (made.instance size es) size
  unfolding constraints.assign_time constraints.assign_resource constraints.split_events constraints.distribute
      constraints.prefer_times constraints.prefer_resources constraints.avoid_split constraints.spread_events
      constraints.link_events constraints.order_events constraints.avoid_clashes constraints.avoid_unavailable
      constraints.limit_idle constraints.cluster_busy constraints.limit_busy constraints.limit_workload
      constraints.all_halves constraints.pairs
  modest =
      let i = made.instance size es in
      let all = to (codes "all") ∷ [] in
      let halves = to_each (codes "h") (events.halves size) in
      let teachers = to (codes "gp") ∷ [] in
      let classes = to (codes "gc") ∷ [] in
      let forty = count.time_count size es in
      let clashes : length i.times ≤ 200 = omega arith in
      let last = one_time i few (to (codes "t39")) in
      let unavailable : length (listed_times i [] (to (codes "t39") ∷ [])) ≤ 200 = omega arith in
      let days = groups_times i few times.days days_few in
      record {
        assign_time = on_events i few constraints.assign_time all [] refl;
        assign_resource = on_events i few constraints.assign_resource all [] refl;
        split_events = on_events i few constraints.split_events all [] refl;
        distribute = on_events i few constraints.distribute all [] refl;
        prefer_times = on_events i few constraints.prefer_times all [] refl;
        prefer_resources = on_events i few constraints.prefer_resources all [] refl;
        avoid_split = on_groups i few (constraints.avoid_split size) halves refl;
        spread_events = on_groups i few (constraints.spread_events size) halves refl;
        link_events = on_groups i few constraints.link_events (to (codes "h0") ∷ []) refl;
        order_events = on_pairs i few (constraints.order_events size)
            (map constraints.pair (below (constraints.pair_count size))) refl pairs_few;
        avoid_clashes = on_resources i few constraints.avoid_clashes constraints.all_groups [] refl clashes;
        avoid_unavailable = on_resources i few constraints.avoid_unavailable teachers [] refl unavailable;
        limit_idle = on_resources i few constraints.limit_idle teachers [] refl days;
        cluster_busy = on_resources i few constraints.cluster_busy teachers [] refl days;
        limit_busy = on_resources i few constraints.limit_busy classes [] refl days;
        limit_workload = on_resources i few constraints.limit_workload teachers [] refl (omega arith);
      }

  points_few : Each (λ c. length (points_of (made.instance size es) c) ≤ 6000) size
  points_few = record {
    assign_time = modest.assign_time.points;
    assign_resource = modest.assign_resource.points;
    split_events = modest.split_events.points;
    distribute = modest.distribute.points;
    prefer_times = modest.prefer_times.points;
    prefer_resources = modest.prefer_resources.points;
    avoid_split = modest.avoid_split.points;
    spread_events = modest.spread_events.points;
    link_events = modest.link_events.points;
    order_events = modest.order_events.points;
    avoid_clashes = modest.avoid_clashes.points;
    avoid_unavailable = modest.avoid_unavailable.points;
    limit_idle = modest.limit_idle.points;
    cluster_busy = modest.cluster_busy.points;
    limit_busy = modest.limit_busy.points;
    limit_workload = modest.limit_workload.points;
  }

  monitors_few : length (monitors_of (made.instance size es)) ≤ 96000
  monitors_few =
      let i = made.instance size es in
      let all = few_monitors i 0 i.constraints
      (all_constraints (λ c. length (points_of i c) ≤ 6000) size es points_few) in
      let constraints = count.constraint_count size es in
      omega arith

  watches_few : watch_count (made.instance size es) ≤ 8000000
  watches_few =
      let i = made.instance size es in
      let sum = sum_of size es (watches_of i) in
      let m = modest in
      let a = m.assign_time.watches in
      let b = m.assign_resource.watches in
      let c = m.split_events.watches in
      let d = m.distribute.watches in
      let e = m.prefer_times.watches in
      let f = m.prefer_resources.watches in
      let g = m.avoid_split.watches in
      let h = m.spread_events.watches in
      let j = m.link_events.watches in
      let k = m.order_events.watches in
      let l = m.avoid_clashes.watches in
      let n = m.avoid_unavailable.watches in
      let o = m.limit_idle.watches in
      let p = m.cluster_busy.watches in
      let q = m.limit_busy.watches in
      let r = m.limit_workload.watches in
      omega arith

  -- no limit is passed
  pub limits_kept : limit_fault (made.instance size es) ≡ None
  limits_kept =
      let i = made.instance size es in
      let times = count.time_count size es in
      let time_groups = count.time_group_count size es in
      let types = count.type_count size es in
      let resources = count.resource_count size es s in
      let resource_groups = count.resource_group_count size es in
      let events = count.event_count size es s drawn in
      let event_groups = count.event_group_count size es s in
      let constraints = count.constraint_count size es in
      let durations = count.duration_sum size es s drawn in
      let tasks = count.task_sum size es s drawn in
      let cells = count.cell_count size es s drawn in
      let monitors = monitors_few in
      let watches = watches_few in
      neither _ _ (within TOO_MANY_TIMES TIMES (length i.times) (omega arith))
      (neither _ _ (within TOO_MANY_TIME_GROUPS TIME_GROUPS (length i.time_groups) (omega arith))
      (neither _ _ (within TOO_MANY_RESOURCE_TYPES RESOURCE_TYPES (length i.resource_types) (omega arith))
      (neither _ _ (within TOO_MANY_RESOURCES RESOURCES (length i.resources) (omega arith))
      (neither _ _ (within TOO_MANY_RESOURCE_GROUPS RESOURCE_GROUPS (length i.resource_groups) (omega arith))
      (neither _ _ (within TOO_MANY_EVENTS EVENTS (length i.events) (omega arith))
      (neither _ _ (within TOO_MANY_EVENT_GROUPS EVENT_GROUPS (length i.event_groups) (omega arith))
      (neither _ _ (within TOO_MANY_CONSTRAINTS CONSTRAINTS (length i.constraints) (omega arith))
      (neither _ _ (within TOO_LONG_DURATION DURATION (total_duration i) (omega arith))
      (neither _ _ (within TOO_MANY_TASKS TASKS (task_count i) (omega arith))
      (neither _ _ (within TOO_MANY_CELLS CELLS (length i.resources * length i.times) (omega arith))
      (neither _ _ listed_within
      (neither _ _ (within TOO_MANY_MONITORS MONITORS (length (monitors_of i)) (omega arith))
      (neither _ _ (within TOO_MANY_WATCHES WATCHES (watch_count i) (omega arith))
      (neither _ _ unit_within refl))))))))))))))
