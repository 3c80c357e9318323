-- How many points the constraints of the instance that is made have, and how much they watch there.
use Rattle.std.proofs.Common.{ℕ, ◌≡◌, ◌+◌, ◌*◌, ◌^◌, ◌<◌, ◌≤◌, Bool, true, false, if◌then◌else◌}
use Rattle.std.proofs.Common.{Option, Some, None, List, [], ◌∷◌, ◌++◌, All, length, slice_get}
use Rattle.std.proofs.Common.{refl, ap, subst, ◌∙◌, arith, get_or, eqb}
use Rattle.std.specs.List.{sum_by, cons_option, range_with_len}
use Rattle.std.specs.Option.{option_map_or}
use Rattle.std.proofs.Math.Nat.{mul-le-mul}
use Rattle.std.proofs.lemmas.List.{length-map}
use Rattle.std.proofs.lemmas.List.Concat.{length-flat_map}
use Rattle.std.proofs.lemmas.List.FromFn.{length-range_with_len}
use Rattle.std.proofs.lemmas.List.Sums.{sum_by-le, count_by-le-length}
use Rattle.khe_base.specs.Names.{number_of, is_among_names}
use Rattle.khe_instance.specs.declared.points.Point.TheVariants as point
use Rattle.khe_base.proofs.ListLemmas.{all-there}
use Rattle.xhstt_shape.specs.declared.constraints.RawApplies.TheVariants as applied
use Rattle.xhstt_shape.specs.declared.constraints.RawConstraint.{RawConstraint}
use Rattle.xhstt_shape.specs.declared.constraints.RawPair.{RawPair}
use Rattle.xhstt_shape.specs.declared.records.EventGroup.{EventGroup}
use Rattle.xhstt_shape.specs.declared.records.RawEvent.{RawEvent}
use Rattle.xhstt_shape.specs.declared.records.RawInstance.{RawInstance}
use Rattle.xhstt_shape.specs.declared.records.Ref.{Ref}
use Rattle.xhstt_references.specs.Ids.{event_ids, event_group_ids, resource_group_ids, resource_ids}
use Rattle.xhstt_references.specs.Ids.{time_group_ids, time_ids}
use Rattle.xhstt_resolve.specs.Limits.{group_size, watched_times, watches_of}
use Rattle.xhstt_resolve.specs.Members.{events_in, first_mentions, listed_events, listed_resources, listed_times}
use Rattle.xhstt_resolve.specs.Members.{members, members_in, numbers_from, numbers_of, resources_in, times_in}
use Rattle.xhstt_resolve.specs.Members.{groups_of_event, groups_of_resource, groups_of_time}
use Rattle.xhstt_resolve.specs.Points.{event_point, resource_point}
use Rattle.xhstt_resolve.specs.Rules.{event_named}
use Rattle.xhstt_resolve.specs.Points.{has_role, places_at, points_in, points_of, points_of_events, role_of}
use Rattle.xhstt_resolve.specs.Points.{role_points}
use Rattle.xhstt_resolve.proofs.MentionsLemmas.{collected_mentions, collected_few}
use Rattle.xhstt_resolve.proofs.SizesLemmas.{length_role_points}
use Rattle.xhstt_resolve.proofs.WatchesLemmas.{event_watches, group_watches, pair_watches, resource_watches, named_by}
use Rattle.xhstt_resolve.proofs.WellMadeLists.{listed-within, members_in-within, numbers_of-within}

-- numbers below a size are mentioned first no more often than there are
pub first_few : (size : ℕ) (ns : List ℕ) → size < 2 ^ 32 → All (λ n. n < size) ns → length (first_mentions ns) ≤ size
first_few size ns small h =
    subst (λ ms. length ms ≤ size) (collected_mentions size ns h) (collected_few size ns small h)

-- no more items are in a group than there are
members_few : {X : Type 0} (test : X → Bool) (k : ℕ) (xs : List X) → length (numbers_from test k xs) ≤ length xs
members_few test k [] = omega arith
members_few test k (x ∷ xs) = by (test x) (members_few test (k + 1) xs)
  where
    by : (b : Bool) → length (numbers_from test (k + 1) xs) ≤ length xs
        → length ((if b then k ∷ [] else []) ++ numbers_from test (k + 1) xs) ≤ length (x ∷ xs)
    by true l = omega arith
    by false l = omega arith

group_few : {X : Type 0} (ids : List (List ℕ)) (groups : X → List (List ℕ)) (xs : List X) (id : List ℕ)
    → length (members_in ids groups xs id) ≤ length xs
group_few ids groups xs id = by (is_among_names id ids)
  where
    by : (b : Bool) → length (if b then members groups xs id else []) ≤ length xs
    by true = members_few (λ x. is_among_names id (groups x)) 0 xs
    by false = omega arith

-- sizes of an instance that bound its points and watches
pub record IsFew (i : RawInstance) : Type 0 where
  pub times : length i.times ≡ 40
  pub resources : length i.resources ≤ 800
  pub events : length i.events ≤ 2000
  pub groups : length i.event_groups ≤ 1001
  pub places : All (λ (e : RawEvent). length e.resources ≤ 3) i.events

-- what a constraint has and watches
pub record IsModest (i : RawInstance) (most : ℕ) (c : RawConstraint) : Type 0 where
  pub points : length (points_of i c) ≤ 6000
  pub watches : watches_of i c ≤ most

module _ (i : RawInstance) (few : IsFew i) where
  events_listed : (groups events : List Ref) → length (first_mentions (listed_events i groups events)) ≤ 2000
  events_listed groups events =
      let count = few.events in
      let size : length (event_ids i) ≡ length i.events = length-map i.events (λ e. e.id.text) in
      let small : length i.events < 2 ^ 32 = omega arith in
      let within : All (λ n. n < length i.events) (listed_events i groups events) =
      listed-within (length i.events) (events_in i) (event_ids i) groups events size
      (λ id. members_in-within (event_group_ids i) groups_of_event i.events id) in
      let all = first_few (length i.events) (listed_events i groups events) small within in
      omega arith

  resources_listed : (groups resources : List Ref) → length (first_mentions (listed_resources i groups resources)) ≤ 800
  resources_listed groups resources =
      let count = few.resources in
      let size : length (resource_ids i) ≡ length i.resources = length-map i.resources (λ r. r.id.text) in
      let small : length i.resources < 2 ^ 32 = omega arith in
      let within : All (λ n. n < length i.resources) (listed_resources i groups resources) =
      listed-within (length i.resources) (resources_in i) (resource_ids i) groups resources size
      (λ id. members_in-within (resource_group_ids i) groups_of_resource i.resources id) in
      let all = first_few (length i.resources) (listed_resources i groups resources) small within in
      omega arith

  groups_listed : (groups : List Ref) → length (first_mentions (numbers_of (event_group_ids i) groups)) ≤ 1001
  groups_listed groups =
      let ids = event_group_ids i in
      let count = few.groups in
      let size : length ids ≡ length i.event_groups = length-map i.event_groups (λ g. g.id.text) in
      let small : length ids < 2 ^ 32 = omega arith in
      let all = first_few (length ids) (numbers_of ids groups) small (numbers_of-within ids groups) in
      omega arith

  -- the places of an event that have a role
  few_places : (e : ℕ) → length (places_at i e) ≤ 3
  few_places e = by (slice_get i.events e) refl
    where
      by : (o : Option RawEvent) → slice_get i.events e ≡ o
          → length (option_map_or (λ (event : RawEvent). event.resources) o []) ≤ 3
      by None at = omega arith
      by (Some event) at = all-there (λ (x : RawEvent). length x.resources ≤ 3) i.events e event few.places at

  few_role_points : (role : List ℕ) (e : ℕ) → length (role_points i role e) ≤ 3
  few_role_points role e =
      let is = length_role_points i role e in
      let count = count_by-le-length (has_role role) (places_at i e) in
      let places = few_places e in
      omega arith

  event_points : (role : Option (List ℕ)) (ns : List ℕ) → length ns ≤ 2000
      → length (points_of_events i role ns) ≤ 6000
  event_points None ns l =
      let is = length-map ns event_point in
      omega arith
  event_points (Some role) ns l =
      let is = length-flat_map (role_points i role) ns in
      let sum = sum_by-le (λ e. length (role_points i role e)) 3 ns (λ k d m. few_role_points role (get_or ns k d)) in
      omega arith

  one_group : (g : ℕ) → group_size i g ≤ 2000
  one_group g = by (slice_get i.event_groups g)
    where
      by : (o : Option EventGroup)
          → option_map_or (λ (group : EventGroup). length (events_in i group.id.text)) o 0 ≤ 2000
      by None = omega arith
      by (Some group) =
          let size = group_few (event_group_ids i) groups_of_event i.events group.id.text in
          let count = few.events in
          omega arith

  one_pair : (p : RawPair) → named_by i p ≤ 2
  one_pair p = by (eqb (event_named i p.first).0 (event_named i p.second).0)
    where
      by : (b : Bool) → (if b then 1 else 2) ≤ 2
      by true = omega arith
      by false = omega arith

  -- what constraints on events, on groups, on pairs and on resources have and watch
  pub on_events : (c : RawConstraint) (groups events : List Ref) → c.applies ≡ applied.Events groups events
      → IsModest i 6000 c
  on_events c groups events is =
      let ns = first_mentions (listed_events i groups events) in
      let points : length (points_of i c) ≡ length (points_of_events i (role_of c.rule) ns) =
      ap (λ a. length (points_in i (role_of c.rule) a)) is in
      let size = event_points (role_of c.rule) ns (events_listed groups events) in
      let watches = event_watches i c groups events is in
      record { points = omega arith; watches = omega arith }

  pub on_groups : (c : RawConstraint) (groups : List Ref) → c.applies ≡ applied.Groups groups
      → IsModest i 2002000 c
  on_groups c groups is =
      let ns = first_mentions (numbers_of (event_group_ids i) groups) in
      let points : length (points_of i c) ≡ length ns =
      ap (λ a. length (points_in i (role_of c.rule) a)) is ∙ length-map ns point.EventGroup in
      let size = groups_listed groups in
      let watches = group_watches i c groups is in
      let sum = sum_by-le (group_size i) 2000 ns (λ k d m. one_group (get_or ns k d)) in
      record { points = omega arith; watches = omega arith }

  pub on_pairs : (c : RawConstraint) (pairs : List RawPair) → c.applies ≡ applied.Pairs pairs → length pairs ≤ 101
      → IsModest i 202 c
  on_pairs c pairs is l =
      let ks = range_with_len 0 (length pairs) in
      let points : length (points_of i c) ≡ length pairs =
      ap (λ a. length (points_in i (role_of c.rule) a)) is ∙ length-map ks point.EventPair
      ∙ length-range_with_len 0 (length pairs) in
      let watches = pair_watches i c pairs is in
      let sum = sum_by-le (named_by i) 2 pairs (λ k d m. one_pair (get_or pairs k d)) in
      record { points = omega arith; watches = omega arith }

  pub on_resources : (c : RawConstraint) (groups resources : List Ref) → c.applies ≡ applied.Resources groups resources
      → watched_times i c.rule ≤ 200 → IsModest i 160000 c
  on_resources c groups resources is l =
      let ns = first_mentions (listed_resources i groups resources) in
      let points : length (points_of i c) ≡ length ns =
      ap (λ a. length (points_in i (role_of c.rule) a)) is ∙ length-map ns resource_point in
      let size = resources_listed groups resources in
      let watches = resource_watches i c groups resources is in
      let product : length ns * watched_times i c.rule ≤ 800 * 200 = mul-le-mul size l in
      record { points = omega arith; watches = omega arith }

  -- how many times rules watch

  group_times : (group : Ref) → length (times_in i group.id) ≤ 40
  group_times group =
      let size = group_few (time_group_ids i) groups_of_time i.times group.id in
      let count = few.times in
      omega arith

  -- five groups have at most 200 times with repeats, and one time is one
  pub groups_times : (groups : List Ref) → length groups ≤ 5 → sum_by (λ g. length (times_in i g.id)) groups ≤ 200
  groups_times groups l =
      let f = λ (g : Ref). length (times_in i g.id) in
      let sum = sum_by-le f 40 groups (λ k d m. group_times (get_or groups k d)) in
      omega arith

  pub one_time : (t : Ref) → length (listed_times i [] (t ∷ [])) ≤ 1
  one_time t = by (number_of t.id (time_ids i))
    where
      by : (o : Option ℕ) → length (cons_option o []) ≤ 1
      by None = omega arith
      by (Some n) = omega arith
