-- The points of a constraint are such as its rule has, and all different.
use Rattle.std.proofs.Common.{ℕ, ◌≡◌, ◌≢◌, ◌+◌, ◌<◌, suc, zero, Bool, true, false, if◌then◌else◌, Option, Some, None}
use Rattle.std.proofs.Common.{List, [], ◌∷◌, ◌++◌, length, map, refl, sym, ap, ◌∙◌, arith, All, slice_get, option_map}
use Rattle.std.proofs.Common.{flat_map, get_or}
use Rattle.std.specs.List.{range_with_len}
use Rattle.std.specs.Option.{option_and_then, option_map_or}
use Rattle.std.specs.Str.{bytes_eq}
use Rattle.std.proofs.lemmas.List.{length-map}
use Rattle.std.proofs.lemmas.List.Elements.{All-nil, All-cons, All-map, All-weaker}
use Rattle.std.proofs.lemmas.Option.{same_Some, slice_get-map}
use Rattle.std.proofs.lemmas.Slice.Eq.{bytes_eq-Decides}
use Rattle.khe_instance.specs.Lookups.{role_at}
use Rattle.khe_instance.specs.WellMade.{IsGroupPoint, IsPairPoint, IsPlacePoint, IsPointOf, IsResourcePoint}
use Rattle.khe_instance.specs.WellMade.{IsSinglePoint}
use Rattle.khe_instance.specs.declared.parts.EventInfo.{EventInfo}
use Rattle.khe_instance.specs.declared.parts.Place.{Place}
use Rattle.khe_instance.specs.declared.points.Point.{Point}
use Rattle.khe_instance.specs.declared.points.Point.TheVariants as point
use Rattle.xhstt_references.specs.Ids.{resource_group_ids, resource_ids, event_group_ids, event_ids}
use Rattle.xhstt_resolve.specs.Members.{events_in, first_mentions, groups_of_event, groups_of_resource, listed_events}
use Rattle.xhstt_resolve.specs.Members.{listed_resources, numbers_from, numbers_of, numbers_where, resources_in}
use Rattle.xhstt_resolve.specs.Parts.{event_of, events_from, group_of, group_places, parts_of, place_of, resource_of}
use Rattle.xhstt_resolve.specs.Parts.{role_text}
use Rattle.xhstt_resolve.specs.Points.{event_point, has_role, place_point, places_at, points_in, resource_point}
use Rattle.xhstt_resolve.specs.Points.{role_of, role_points}
use Rattle.xhstt_resolve.specs.Rules.{pair_of, pairs_of, rule_of}
use Rattle.xhstt_shape.specs.WellFormed.{AreEvents, AreGroups, ArePairs, AreResources, FitsRule}
use Rattle.xhstt_resolve.proofs.WellMadeLists.{All-first_mentions, listed-within, members_in-within, numbers_of-within}
use Rattle.xhstt_resolve.proofs.WellMadeLists.{All-flat_map}
use Rattle.xhstt_resolve.proofs.WellMadePairwise.{Pairwise, Pairwise-flat_map, Pairwise-map, Pairwise-weaker}
use Rattle.xhstt_resolve.proofs.WellMadePairwise.{first_mentions_differ, numbers_differ, range_below, range_differs}
use Rattle.xhstt_resolve.proofs.WellMadeParts.{length-events}
use Rattle.xhstt_shape.specs.declared.constraints.RawApplies.{RawApplies}
use Rattle.xhstt_shape.specs.declared.constraints.RawApplies.TheVariants.{Events, Groups, Pairs, Resources}
use Rattle.xhstt_shape.specs.declared.constraints.RawRule.{RawRule}
use Rattle.xhstt_shape.specs.declared.constraints.RawRule.TheVariants.{AssignTime, AssignResource, SplitEvents}
use Rattle.xhstt_shape.specs.declared.constraints.RawRule.TheVariants.{DistributeSplitEvents, PreferTimes}
use Rattle.xhstt_shape.specs.declared.constraints.RawRule.TheVariants.{PreferResources, AvoidSplitAssignments}
use Rattle.xhstt_shape.specs.declared.constraints.RawRule.TheVariants.{SpreadEvents, LinkEvents, OrderEvents}
use Rattle.xhstt_shape.specs.declared.constraints.RawRule.TheVariants.{AvoidClashes, AvoidUnavailableTimes}
use Rattle.xhstt_shape.specs.declared.constraints.RawRule.TheVariants.{LimitIdleTimes, ClusterBusyTimes, LimitBusyTimes}
use Rattle.xhstt_shape.specs.declared.constraints.RawRule.TheVariants.{LimitWorkload}
use Rattle.xhstt_shape.specs.declared.records.Name.{Name}
use Rattle.xhstt_shape.specs.declared.records.RawEvent.{RawEvent}
use Rattle.xhstt_shape.specs.declared.records.RawInstance.{RawInstance}

-- events, groups, pairs and resources that are listed
single_points : (i : RawInstance) (applies : RawApplies) → AreEvents applies
    → All (IsSinglePoint (parts_of i)) (points_in i None applies)
single_points i (Groups groups) form = absurd form
single_points i (Pairs pairs) form = absurd form
single_points i (Resources groups resources) form = absurd form
single_points i (Events groups events) form =
    let ns = listed_events i groups events in
    let bound : (n : ℕ) → n < length i.events → n < length (events_from i 0 i.events) =
    λ n l. omega (arith, length-events i 0 i.events) in
    All-map (IsSinglePoint (parts_of i)) event_point (first_mentions ns)
    (All-first_mentions (λ n. n < length (events_from i 0 i.events)) ns
    (All-weaker (λ n. n < length i.events) (λ n. n < length (events_from i 0 i.events)) bound ns
    (listed-within (length i.events) (events_in i) (event_ids i) groups events (length-map i.events (λ e. e.id.text))
    (members_in-within (event_group_ids i) groups_of_event i.events))))

group_points : (i : RawInstance) (role : Option (List ℕ)) (applies : RawApplies) → AreGroups applies
    → All (IsGroupPoint (parts_of i)) (points_in i role applies)
group_points i role (Events groups events) form = absurd form
group_points i role (Pairs pairs) form = absurd form
group_points i role (Resources groups resources) form = absurd form
group_points i role (Groups groups) form =
    let ns = numbers_of (event_group_ids i) groups in
    let count = length-map i.event_groups (group_of i) in
    let names = length-map i.event_groups (λ g. g.id.text) in
    let bound : (n : ℕ) → n < length (event_group_ids i)
    → n < length (map (group_of i) i.event_groups) = λ n l. omega (arith, count, names) in
    All-map (IsGroupPoint (parts_of i)) point.EventGroup (first_mentions ns)
    (All-first_mentions (λ n. n < length (map (group_of i) i.event_groups)) ns
    (All-weaker (λ n. n < length (event_group_ids i)) (λ n. n < length (map (group_of i) i.event_groups)) bound ns
    (numbers_of-within (event_group_ids i) groups)))

pair_points : (i : RawInstance) (role : Option (List ℕ)) (applies : RawApplies) → ArePairs applies
    → All (IsPairPoint (pairs_of i applies)) (points_in i role applies)
pair_points i role (Events groups events) form = absurd form
pair_points i role (Groups groups) form = absurd form
pair_points i role (Resources groups resources) form = absurd form
pair_points i role (Pairs pairs) form =
    let count = length-map pairs (pair_of i) in
    let bound : (n : ℕ) → n < 0 + length pairs → n < length (map (pair_of i) pairs) = λ n l. omega (arith, count) in
    All-map (IsPairPoint (map (pair_of i) pairs)) point.EventPair (range_with_len 0 (length pairs))
    (All-weaker (λ n. n < 0 + length pairs) (λ n. n < length (map (pair_of i) pairs)) bound
    (range_with_len 0 (length pairs)) (range_below 0 (length pairs)))

resource_points : (i : RawInstance) (role : Option (List ℕ)) (applies : RawApplies) → AreResources applies
    → All (IsResourcePoint (parts_of i)) (points_in i role applies)
resource_points i role (Events groups events) form = absurd form
resource_points i role (Groups groups) form = absurd form
resource_points i role (Pairs pairs) form = absurd form
resource_points i role (Resources groups resources) form =
    let ns = listed_resources i groups resources in
    let count = length-map i.resources (resource_of i) in
    let bound : (n : ℕ) → n < length i.resources → n < length (map (resource_of i) i.resources) =
    λ n l. omega (arith, count) in
    All-map (IsResourcePoint (parts_of i)) resource_point (first_mentions ns)
    (All-first_mentions (λ n. n < length (map (resource_of i) i.resources)) ns
    (All-weaker (λ n. n < length i.resources) (λ n. n < length (map (resource_of i) i.resources)) bound ns
    (listed-within (length i.resources) (resources_in i) (resource_ids i) groups resources
    (length-map i.resources (λ r. r.id.text)) (members_in-within (resource_group_ids i) groups_of_resource
    i.resources))))

-- the item with a number passes the test
record Passes {X : Type 0} (test : X → Bool) (xs : List X) (n : ℕ) : Type 0 where
  value : X
  found : slice_get xs n ≡ Some value
  passes : test value ≡ true

numbers_pass : {X : Type 0} (test : X → Bool) (whole : List X) (k : ℕ) (xs : List X)
    → ((j : ℕ) → slice_get xs j ≡ slice_get whole (k + j)) → All (Passes test whole) (numbers_from test k xs)
numbers_pass test whole k [] at = All-nil (Passes test whole)
numbers_pass test whole k (x ∷ xs) at =
    let next : (j : ℕ) → slice_get xs j ≡ slice_get whole (k + 1 + j) =
    λ j. (let z : k + suc j ≡ k + 1 + j = omega arith in at (suc j) ∙ ap (slice_get whole) z) in
    by (test x) refl (numbers_pass test whole (k + 1) xs next)
  where
    by : (b : Bool) → test x ≡ b → All (Passes test whole) (numbers_from test (k + 1) xs)
        → All (Passes test whole) ((if b then k ∷ [] else []) ++ numbers_from test (k + 1) xs)
    by true e later =
        let here : slice_get whole k ≡ Some x = let z : k ≡ k + 0 = omega arith in
        ap (slice_get whole) z ∙ sym (at 0) in
        All-cons (Passes test whole) k (numbers_from test (k + 1) xs) (record { value = x; found = here; passes = e })
        later
    by false e later = later

-- an event of the archive is an event of the parts, with its places first
event_there : (i : RawInstance) (next : ℕ) (es : List RawEvent) (n : ℕ) (e : RawEvent) → slice_get es n ≡ Some e
    → (first : ℕ) × (slice_get (events_from i next es) n ≡ Some (event_of i first e))
event_there i next [] n e at = absurd (let g : ⊥ = cc in g)
event_there i next (x ∷ xs) zero e at = (next, ap (λ y. Some (event_of i next y)) (same_Some x e at))
event_there i next (x ∷ xs) (suc n) e at = event_there i (next + x.duration) xs n e at

front_there : {X : Type 0} (xs ys : List X) (n : ℕ) (x : X) → slice_get xs n ≡ Some x → slice_get (xs ++ ys) n ≡ Some x
front_there [] ys n x at = absurd (let g : ⊥ = cc in g)
front_there (y ∷ xs) ys zero x at = at
front_there (y ∷ xs) ys (suc n) x at = front_there xs ys n x at

role_is : (role : List ℕ) (o : Option Name) → option_map_or (λ name. bytes_eq name.text role) o false ≡ true
    → role_text o ≡ Some role
role_is role None h = absurd (let g : ⊥ = cc in g)
role_is role (Some n) h = ap (λ x. Some x) ((bytes_eq-Decides n.text role).0 h)

-- the places of a role
place_has : (i : RawInstance) (role : List ℕ) (n : ℕ) (e : RawEvent) (k : ℕ) → slice_get i.events n ≡ Some e
    → Passes (has_role role) e.resources k → role_at (events_from i 0 i.events) n k ≡ Some role
place_has i role n e k at held =
    let event = event_there i 0 i.events n e at in
    let listed = slice_get-map (place_of i e) e.resources k ∙ ap (option_map (place_of i e)) held.found in
    let place = front_there (map (place_of i e) e.resources) (flat_map (group_places i e) e.resource_groups) k
    (place_of i e held.value) listed in
    ap (option_and_then (λ (x : EventInfo). option_and_then (λ (p : Place). p.role) (slice_get x.places k))) event.1
    ∙ ap (option_and_then (λ (p : Place). p.role)) place
    ∙ role_is role held.value.role held.passes

event_places : (i : RawInstance) (role : List ℕ) (n : ℕ) → All (IsPlacePoint (parts_of i) role) (role_points i role n)
event_places i role n = by (slice_get i.events n) refl
  where
    by : (o : Option RawEvent) → slice_get i.events n ≡ o
        → All (IsPlacePoint (parts_of i) role) (map (place_point n)
        (numbers_where (has_role role) (option_map_or (λ e. e.resources) o [])))
    by None at = All-nil (IsPlacePoint (parts_of i) role)
    by (Some e) at =
        let ks = numbers_where (has_role role) e.resources in
        All-map (IsPlacePoint (parts_of i) role) (place_point n) ks
        (All-weaker (Passes (has_role role) e.resources) (λ k. role_at (events_from i 0 i.events) n k ≡ Some role)
        (λ k held. place_has i role n e k at held) ks
        (numbers_pass (has_role role) e.resources 0 e.resources
        (λ j. (let z : j ≡ 0 + j = omega arith in ap (slice_get e.resources) z))))

place_points : (i : RawInstance) (role : List ℕ) (applies : RawApplies) → AreEvents applies
    → All (IsPlacePoint (parts_of i) role) (points_in i (Some role) applies)
place_points i role (Groups groups) form = absurd form
place_points i role (Pairs pairs) form = absurd form
place_points i role (Resources groups resources) form = absurd form
place_points i role (Events groups events) form =
    All-flat_map (IsPlacePoint (parts_of i) role) (role_points i role) (first_mentions (listed_events i groups events))
    (event_places i role)

pub points_fit : (i : RawInstance) (applies : RawApplies) (rule : RawRule) → FitsRule rule applies
    → All (IsPointOf (parts_of i) (rule_of i applies rule)) (points_in i (role_of rule) applies)
points_fit i applies AssignTime form = single_points i applies form
points_fit i applies (AssignResource role) form = place_points i role.text applies form
points_fit i applies (SplitEvents a b c d) form = single_points i applies form
points_fit i applies (DistributeSplitEvents d least greatest) form = single_points i applies form
points_fit i applies (PreferTimes groups times duration) form = single_points i applies form
points_fit i applies (PreferResources groups resources role) form = place_points i role.text applies form
points_fit i applies (AvoidSplitAssignments role) form = group_points i None applies form
points_fit i applies (SpreadEvents groups) form = group_points i None applies form
points_fit i applies LinkEvents form = group_points i None applies form
points_fit i applies OrderEvents form = pair_points i None applies form
points_fit i applies AvoidClashes form = resource_points i None applies form
points_fit i applies (AvoidUnavailableTimes groups times) form = resource_points i None applies form
points_fit i applies (LimitIdleTimes groups least greatest) form = resource_points i None applies form
points_fit i applies (ClusterBusyTimes groups least greatest) form = resource_points i None applies form
points_fit i applies (LimitBusyTimes groups least greatest) form = resource_points i None applies form
points_fit i applies (LimitWorkload least greatest) form = resource_points i None applies form

-- the number of a point, and of a place in its event
number_at : Point → ℕ
number_at (point.Event e) = e.0
number_at (point.EventResource e place) = e.0
number_at (point.EventGroup g) = g
number_at (point.EventPair k) = k
number_at (point.Resource r) = r.0

place_at : Point → ℕ
place_at (point.Event e) = 0
place_at (point.EventResource e place) = place
place_at (point.EventGroup g) = 0
place_at (point.EventPair k) = 0
place_at (point.Resource r) = 0

module _ (f : ℕ → Point) (back : (n : ℕ) → number_at (f n) ≡ n) where
  points_differ : (ns : List ℕ) → Pairwise (λ a b. a ≢ b) ns → Pairwise (λ x y. x ≢ y) (map f ns)
  points_differ ns h =
      Pairwise-map (λ x y. x ≢ y) f ns
      (Pairwise-weaker (λ a b. f a ≢ f b) (λ a b. a ≢ b) (λ a b apart e. apart (sym (back a) ∙ ap number_at e ∙ back b))
      ns h)

own_places : (i : RawInstance) (role : List ℕ) (n : ℕ) → Pairwise (λ x y. x ≢ y) (role_points i role n)
unfolding place_at
own_places i role n =
    let ks = numbers_where (has_role role) (places_at i n) in
    Pairwise-map (λ x y. x ≢ y) (place_point n) ks
    (Pairwise-weaker (λ a b. place_point n a ≢ place_point n b) (λ a b. a ≢ b) (λ a b apart e. apart (ap place_at e)) ks
    (numbers_differ (has_role role) (places_at i n)))

other_places : (i : RawInstance) (role : List ℕ) (n m : ℕ) → n ≢ m
    → All (λ x. All (λ y. x ≢ y) (role_points i role m)) (role_points i role n)
unfolding number_at
other_places i role n m apart =
    let ns = numbers_where (has_role role) (places_at i n) in
    let ms = numbers_where (has_role role) (places_at i m) in
    All-map (λ x. All (λ y. x ≢ y) (role_points i role m)) (place_point n) ns
    (λ a d l. All-map (λ y. place_point n (get_or ns a d) ≢ y) (place_point m) ms (λ b f k e. apart (ap number_at e)))

pub points_distinct : (i : RawInstance) (role : Option (List ℕ)) (applies : RawApplies)
    → Pairwise (λ x y. x ≢ y) (points_in i role applies)
unfolding number_at
points_distinct i None (Events groups events) =
    points_differ event_point (λ n. refl) (first_mentions (listed_events i groups events))
    (first_mentions_differ (listed_events i groups events))
points_distinct i (Some role) (Events groups events) =
    Pairwise-flat_map (λ x y. x ≢ y) (λ a b. a ≢ b) (role_points i role) (own_places i role) (other_places i role)
    (first_mentions (listed_events i groups events)) (first_mentions_differ (listed_events i groups events))
points_distinct i role (Groups groups) = points_differ point.EventGroup (λ n. refl)
    (first_mentions (numbers_of (event_group_ids i) groups))
    (first_mentions_differ (numbers_of (event_group_ids i) groups))
points_distinct i role (Pairs pairs) = points_differ point.EventPair (λ n. refl) (range_with_len 0 (length pairs))
    (range_differs 0 (length pairs))
points_distinct i role (Resources groups resources) =
    points_differ resource_point (λ n. refl) (first_mentions (listed_resources i groups resources))
    (first_mentions_differ (listed_resources i groups resources))
