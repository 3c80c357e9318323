-- The limits on the sizes of parts.
use Rattle.std.proofs.Common.{ℕ, ◌≡◌, ◌+◌, ◌*◌, ◌≤◌, suc, zero, Bool, true, false, cond, Option, Some, None, List, []}
use Rattle.std.proofs.Common.{◌∷◌, length, map, refl, sym, ap, subst, ◌∙◌, arith, slice_get, option_map, flat_map, set}
use Rattle.std.proofs.Common.{le_refl, le_trans, mul-zero}
use Rattle.std.specs.List.{sum_by, fold, enumerate_from}
use Rattle.std.specs.Option.{option_map_or}
use Rattle.std.proofs.lemmas.List.{length-map}
use Rattle.std.proofs.lemmas.List.Concat.{flat_map-cons}
use Rattle.std.proofs.lemmas.List.Folds.{sum_by-replicate}
use Rattle.std.proofs.lemmas.List.Sums.{sum_by-cons, sum_by-append}
use Rattle.std.proofs.lemmas.Option.{slice_get-map}
use Rattle.khe_base.specs.IdSet.{member_count, no_members, with_member}
use Rattle.khe_base.specs.declared.limits.TheConstants.{DURATION, TASKS, CELLS}
use Rattle.khe_instance.proofs.WatchingLaws as sized
use Rattle.khe_instance.specs.Watching as watching
use Rattle.khe_instance.specs.WellMade as made
use Rattle.khe_instance.specs.declared.parts.EventInfo.{EventInfo}
use Rattle.khe_instance.specs.declared.parts.GroupInfo.{GroupInfo}
use Rattle.khe_instance.specs.declared.points.Point.{Point}
use Rattle.khe_instance.specs.declared.points.Point.TheVariants as point
use Rattle.khe_instance.specs.declared.rules.Constraint.{Constraint}
use Rattle.khe_instance.specs.declared.rules.Rule.TheVariants as ruled
use Rattle.xhstt_resolve.specs.Limits.{group_size, pair_size, watched_times, watches_at, watches_of}
use Rattle.xhstt_resolve.specs.Members.{events_in, listed_times, set_of, times_in}
use Rattle.xhstt_resolve.specs.Parts.{constraint_of, event_of, events_from, group_of, parts_of, places_of, resource_of}
use Rattle.xhstt_resolve.specs.Points.{monitors_at, points_of}
use Rattle.xhstt_resolve.specs.Rules.{group_set, group_sets, pairs_of, rule_of}
use Rattle.xhstt_resolve.proofs.WellMadeFaults.{IsWithin}
use Rattle.xhstt_resolve.proofs.WellMadeParts.{length-events, monitor_at}
use Rattle.xhstt_resolve.proofs.WellMadeUnits.{unit_within}
use Rattle.xhstt_shape.specs.declared.constraints.RawApplies.{RawApplies}
use Rattle.xhstt_shape.specs.declared.constraints.RawConstraint.{RawConstraint}
use Rattle.xhstt_shape.specs.declared.constraints.RawRule.{RawRule}
use Rattle.xhstt_shape.specs.declared.constraints.RawRule.TheVariants.{AssignTime, AssignResource, SplitEvents}
use Rattle.xhstt_shape.specs.declared.constraints.RawRule.TheVariants.{DistributeSplitEvents, PreferTimes}
use Rattle.xhstt_shape.specs.declared.constraints.RawRule.TheVariants.{PreferResources, AvoidSplitAssignments}
use Rattle.xhstt_shape.specs.declared.constraints.RawRule.TheVariants.{SpreadEvents, LinkEvents, OrderEvents}
use Rattle.xhstt_shape.specs.declared.constraints.RawRule.TheVariants.{AvoidClashes, AvoidUnavailableTimes}
use Rattle.xhstt_shape.specs.declared.constraints.RawRule.TheVariants.{LimitIdleTimes, ClusterBusyTimes, LimitBusyTimes}
use Rattle.xhstt_shape.specs.declared.constraints.RawRule.TheVariants.{LimitWorkload}
use Rattle.xhstt_shape.specs.declared.records.EventGroup.{EventGroup}
use Rattle.xhstt_shape.specs.declared.records.RawEvent.{RawEvent}
use Rattle.xhstt_shape.specs.declared.records.RawInstance.{RawInstance}
use Rattle.xhstt_shape.specs.declared.records.Ref.{Ref}

abbrev bit : Bool → ℕ
bit b = cond b 1 0

-- a set has no more members than were put in
one_more : (bits : List Bool) (n : ℕ) → member_count (with_member bits n) ≤ member_count bits + 1
one_more [] n = omega arith
one_more (b ∷ bs) zero = omega (arith, sum_by-cons bit b bs, sum_by-cons bit true bs)
one_more (b ∷ bs) (suc n) = omega (arith, sum_by-cons bit b bs, sum_by-cons bit b (set bs n true), one_more bs n)

members_few : (numbers : List ℕ) (bits : List Bool)
    → member_count (fold with_member bits numbers) ≤ member_count bits + length numbers
members_few [] bits = omega arith
members_few (n ∷ ns) bits = omega (arith, members_few ns (with_member bits n), one_more bits n)

no_member : (size : ℕ) → member_count (no_members size) ≡ 0
no_member size = sum_by-replicate bit size false ∙ mul-zero size

set_few : (size : ℕ) (numbers : List ℕ) → member_count (set_of size numbers) ≤ length numbers
set_few size numbers = omega (arith, members_few numbers (no_members size), no_member size)

sets_few : (i : RawInstance) (groups : List Ref)
    → sum_by member_count (group_sets i groups) ≤ sum_by (λ g. length (times_in i g.id)) groups
sets_few i [] = omega arith
sets_few i (g ∷ gs) =
    omega (
      arith,
      sum_by-cons member_count (group_set i g) (group_sets i gs),
      sum_by-cons (λ (x : Ref). length (times_in i x.id)) g gs,
      sets_few i gs,
      set_few (length i.times) (times_in i g.id),
    )

-- what a rule watches at a resource
times_few : (i : RawInstance) (applies : RawApplies) (rule : RawRule)
    → sized.listed_times (parts_of i) (rule_of i applies rule) ≤ watched_times i rule
times_few i applies AssignTime = le_refl 1
times_few i applies (AssignResource role) = le_refl 1
times_few i applies (SplitEvents a b c d) = le_refl 1
times_few i applies (DistributeSplitEvents d least greatest) = le_refl 1
times_few i applies (PreferTimes groups times duration) = le_refl 1
times_few i applies (PreferResources groups resources role) = le_refl 1
times_few i applies (AvoidSplitAssignments role) = le_refl 1
times_few i applies (SpreadEvents groups) = le_refl 1
times_few i applies LinkEvents = le_refl 1
times_few i applies OrderEvents = le_refl 1
times_few i applies AvoidClashes = omega (arith, length-map i.times (λ t. t.id.text))
times_few i applies (AvoidUnavailableTimes groups times) = set_few (length i.times) (listed_times i groups times)
times_few i applies (LimitIdleTimes groups least greatest) = sets_few i groups
times_few i applies (ClusterBusyTimes groups least greatest) = sets_few i groups
times_few i applies (LimitBusyTimes groups least greatest) = sets_few i groups
times_few i applies (LimitWorkload least greatest) = le_refl 1

-- what a rule watches at a pair
pairs_few : (i : RawInstance) (applies : RawApplies) (raw : RawRule) (n k : ℕ)
    → n ≡ sized.pair_size (ruled.OrderEvents (pairs_of i applies)) k → sized.pair_size (rule_of i applies raw) k ≤ n
pairs_few i applies AssignTime n k e = omega arith
pairs_few i applies (AssignResource role) n k e = omega arith
pairs_few i applies (SplitEvents a b c d) n k e = omega arith
pairs_few i applies (DistributeSplitEvents d least greatest) n k e = omega arith
pairs_few i applies (PreferTimes groups times duration) n k e = omega arith
pairs_few i applies (PreferResources groups resources role) n k e = omega arith
pairs_few i applies (AvoidSplitAssignments role) n k e = omega arith
pairs_few i applies (SpreadEvents groups) n k e = omega arith
pairs_few i applies LinkEvents n k e = omega arith
pairs_few i applies OrderEvents n k e = omega (arith, e)
pairs_few i applies AvoidClashes n k e = omega arith
pairs_few i applies (AvoidUnavailableTimes groups times) n k e = omega arith
pairs_few i applies (LimitIdleTimes groups least greatest) n k e = omega arith
pairs_few i applies (ClusterBusyTimes groups least greatest) n k e = omega arith
pairs_few i applies (LimitBusyTimes groups least greatest) n k e = omega arith
pairs_few i applies (LimitWorkload least greatest) n k e = omega arith

group_few : (i : RawInstance) (g : ℕ) → sized.group_size (parts_of i) g ≤ group_size i g
group_few i g =
    subst (λ o. option_map_or (λ (x : GroupInfo). member_count x.events) o 0 ≤ group_size i g)
    (sym (slice_get-map (group_of i) i.event_groups g)) (by (slice_get i.event_groups g))
  where
    by : (o : Option EventGroup) → option_map_or (λ (x : GroupInfo). member_count x.events) (option_map (group_of i) o)
        0 ≤ option_map_or (λ (x : EventGroup). length (events_in i x.id.text)) o 0
    by None = le_refl 0
    by (Some x) = set_few (length i.events) (events_in i x.id.text)

-- what a constraint's monitor watches at a point
size_few : (i : RawInstance) (c : RawConstraint) (p : Point)
    → sized.watched_size (parts_of i) (rule_of i c.applies c.rule) p ≤ watches_at i c p
size_few i c (point.Event e) = le_refl 1
size_few i c (point.EventResource e place) = le_refl 1
size_few i c (point.EventGroup g) = group_few i g
size_few i c (point.EventPair k) = pairs_few i c.applies c.rule (pair_size i c k) k refl
size_few i c (point.Resource r) = times_few i c.applies c.rule

point_few : (i : RawInstance) (c : RawConstraint) (p : Point)
    → watching.watches_at (parts_of i) (rule_of i c.applies c.rule) p ≤ watches_at i c p
point_few i c p = le_trans (sized.watches_within (parts_of i) (rule_of i c.applies c.rule) p) (size_few i c p)

module _ (i : RawInstance) (k : ℕ) (c : RawConstraint) (at : slice_get i.constraints k ≡ Some c) where
  monitor_few : (p : Point) → watching.watches (parts_of i) (monitor_at i k c p) ≤ watches_at i c p
  monitor_few p =
      let f = λ (x : Constraint). watching.watches_at (parts_of i) x.rule p in
      let e : watching.watches (parts_of i) (monitor_at i k c p) ≡ f (constraint_of i c) =
      ap (λ o. option_map_or f o 0) (slice_get-map (constraint_of i) i.constraints k
      ∙ ap (option_map (constraint_of i)) at)
      in
      subst (λ n. n ≤ watches_at i c p) (sym e) (point_few i c p)

  monitors_few : (ps : List Point) → sum_by (watching.watches (parts_of i)) (map (monitor_at i k c) ps) ≤ sum_by
      (watches_at i c) ps
  monitors_few [] = le_refl 0
  monitors_few (p ∷ ps) =
      omega (
        arith,
        sum_by-cons (watching.watches (parts_of i)) (monitor_at i k c p) (map (monitor_at i k c) ps),
        sum_by-cons (watches_at i c) p ps,
        monitor_few p,
        monitors_few ps,
      )

-- all constraints, from one on
watches_few : (i : RawInstance) (k : ℕ) (cs : List RawConstraint)
    → ((j : ℕ) → slice_get cs j ≡ slice_get i.constraints (k + j))
    → sum_by (watching.watches (parts_of i)) (flat_map (monitors_at i) (enumerate_from k cs)) ≤ sum_by (watches_of i) cs
watches_few i k [] at = le_refl 0
watches_few i k (c ∷ cs) at =
    let w = watching.watches (parts_of i) in
    let rest = flat_map (monitors_at i) (enumerate_from (k + 1) cs) in
    let here : slice_get i.constraints k ≡ Some c = let z : k ≡ k + 0 = omega arith in
    ap (slice_get i.constraints) z ∙ sym (at 0) in
    let next : (j : ℕ) → slice_get cs j ≡ slice_get i.constraints (k + 1 + j) =
    λ j. (let z : k + suc j ≡ k + 1 + j = omega arith in at (suc j) ∙ ap (slice_get i.constraints) z) in
    let whole : sum_by w (flat_map (monitors_at i) (enumerate_from k (c ∷ cs)))
    ≡ sum_by w (monitors_at i (k, c)) + sum_by w rest =
    ap (sum_by w) (flat_map-cons (monitors_at i) (k, c) (enumerate_from (k + 1) cs))
    ∙ sum_by-append w (monitors_at i (k, c)) rest
    in
    omega (
      arith,
      whole,
      sum_by-cons (watches_of i) c cs,
      monitors_few i k c here (points_of i c),
      watches_few i (k + 1)
          cs next,
    )

-- the sums over events
durations_sum : (i : RawInstance) (next : ℕ) (es : List RawEvent)
    → sum_by (λ (e : EventInfo). e.duration) (events_from i next es) ≡ sum_by (λ (e : RawEvent). e.duration) es
durations_sum i next [] = refl
durations_sum i next (e ∷ es) =
    omega (
      arith,
      sum_by-cons (λ (x : EventInfo). x.duration) (event_of i next e)
          (events_from i (next + e.duration) es),
      sum_by-cons (λ (x : RawEvent). x.duration) e es,
      durations_sum i
          (next + e.duration) es,
    )

tasks_sum : (i : RawInstance) (next : ℕ) (es : List RawEvent)
    → sum_by (λ (e : EventInfo). e.duration * length e.places) (events_from i next es)
    ≡ sum_by (λ (e : RawEvent). e.duration * length (places_of i e)) es
tasks_sum i next [] = refl
tasks_sum i next (e ∷ es) =
    sum_by-cons (λ (x : EventInfo). x.duration * length x.places) (event_of i next e)
    (events_from i (next + e.duration) es)
    ∙ ap (λ n. e.duration * length (places_of i e) + n) (tasks_sum i (next + e.duration) es)
    ∙ sym (sum_by-cons (λ (x : RawEvent). x.duration * length (places_of i x)) e es)

pub limits_made : (i : RawInstance) → IsWithin i → made.AreWithinLimits (parts_of i)
limits_made i small = record {
  times = omega (arith, small.times, length-map i.times (λ t. t.id.text));
  types = small.types;
  resources = omega (arith, small.resources, length-map i.resources (resource_of i));
  events = omega (arith, small.events, length-events i 0 i.events);
  groups = omega (arith, small.groups, length-map i.event_groups (group_of i));
  constraints = omega (arith, small.constraints, length-map i.constraints (constraint_of i));
  duration = subst (λ n. n ≤ DURATION) (sym (durations_sum i 0 i.events)) small.duration;
  tasks = subst (λ n. n ≤ TASKS) (sym (tasks_sum i 0 i.events)) small.tasks;
  cells = subst (λ n. n ≤ CELLS) (sym (λ j. length-map i.resources (resource_of i) j * length-map i.times
      (λ t. t.id.text) j)) small.cells;
  monitors = small.monitors;
  watched = le_trans (watches_few i 0 i.constraints
      (λ j. (let z : j ≡ 0 + j = omega arith in ap (slice_get i.constraints) z))) small.watches;
  unit = unit_within (map (λ e. e.duration) i.events) small.units;
}
