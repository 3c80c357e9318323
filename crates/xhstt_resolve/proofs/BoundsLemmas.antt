-- How many points a constraint has and how much it watches, at most.
use Rattle.std.proofs.Common.{◌≡◌, sym, ap, subst, ℕ, ◌+◌, ◌*◌, ◌<◌, ◌≤◌, ◌^◌, suc, refl, arith, Bool, true, false}
use Rattle.std.proofs.Common.{Option, Some, None, List, [], ◌∷◌, All, cond, eqb, map, length, slice_get, le_refl, suc-mul}
use Rattle.std.specs.List.{flat_map, range_with_len, sum_by}
use Rattle.std.specs.Option.{option_map_or}
use Rattle.std.proofs.lemmas.List.{length-append, length-map}
use Rattle.std.proofs.lemmas.List.Elements.{All-nil, All-cons, All-head, All-tail, All-map}
use Rattle.std.proofs.lemmas.List.FromFn.{length-map-range_with_len}
use Rattle.std.proofs.lemmas.List.Sums.{count_by-le-length, sum_by-cons}
use Rattle.khe_base.proofs.ListLemmas.{all-there}
use Rattle.khe_base.specs.declared.limits.TheConstants.{EVENTS}
use Rattle.khe_instance.specs.declared.points.Point.TheVariants.{EventGroup, EventPair}
use Rattle.khe_instance.specs.declared.rules.EventPair.{EventPair as Pair}
use Rattle.xhstt_references.specs.Ids.{event_group_ids}
use Rattle.xhstt_resolve.specs.Limits.{group_size, named_in, pair_size, watched_times, watches_at, watches_of}
use Rattle.xhstt_resolve.specs.Members.{events_in, first_mentions, listed_events, listed_resources, numbers_of}
use Rattle.xhstt_resolve.specs.Members.{numbers_where}
use Rattle.xhstt_resolve.specs.Points.{event_point, has_role, place_point, places_at, points_in, points_of}
use Rattle.xhstt_resolve.specs.Points.{points_of_events, resource_point, role_of, role_points}
use Rattle.xhstt_resolve.specs.Rules.{pairs_of}
use Rattle.xhstt_resolve.specs.Tables.{HasFewPlaces}
use Rattle.xhstt_resolve.proofs.SizesLemmas.{length_role_points}
use Rattle.xhstt_resolve.proofs.WellMadeLists.{All-flat_map}
use Rattle.xhstt_shape.specs.declared.constraints.RawApplies.TheVariants.{Events, Groups, Pairs, Resources}
use Rattle.xhstt_shape.specs.declared.constraints.RawConstraint.{RawConstraint}
use Rattle.xhstt_shape.specs.declared.constraints.RawPair.{RawPair}
use Rattle.xhstt_shape.specs.declared.records.EventGroup.{EventGroup as RawGroup}
use Rattle.xhstt_shape.specs.declared.records.RawEvent.{RawEvent}
use Rattle.xhstt_shape.specs.declared.records.RawInstance.{RawInstance}
use Rattle.xhstt_shape.specs.declared.records.Ref.{Ref}

-- what is true of anything is true of all
each : {X : Type 0} (P : X → Type 0) → ((x : X) → P x) → (xs : List X) → All P xs
each P h [] = All-nil P
each P h (x ∷ xs) = All-cons P x xs (h x) (each P h xs)

-- a sum of what is at most so much each
sum_within : {X : Type 0} (f : X → ℕ) (most : ℕ) (xs : List X) → All (λ x. f x ≤ most) xs
    → sum_by f xs ≤ length xs * most
sum_within f most [] h = omega arith
sum_within f most (x ∷ xs) h =
    let head : f x ≤ most = All-head (λ y. f y ≤ most) x xs h in
    let rest : sum_by f xs ≤ length xs * most = sum_within f most xs (All-tail (λ y. f y ≤ most) x xs h) in
    let more : most + length xs * most ≡ suc (length xs) * most = omega (arith, suc-mul (length xs) most) in
    omega (arith, sum_by-cons f x xs, head, rest, more)

-- a constraint has at most this number of points, and watches at most this much at all of them
pub record IsBounded (i : RawInstance) (c : RawConstraint) (points most : ℕ) : Type 0 where
  pub few : length (points_of i c) ≤ points
  pub small : watches_of i c ≤ points * most

bounded : (i : RawInstance) (c : RawConstraint) (points most : ℕ) → length (points_of i c) ≤ points
    → All (λ p. watches_at i c p ≤ most) (points_of i c) → IsBounded i c points most
bounded i c points most few small =
    let sum : watches_of i c ≤ length (points_of i c) * most = sum_within (watches_at i c) most (points_of i c) small in
    record { few = few; small = grind (arith, sum, few) }

-- events, and their event resources of a role
places_few : (i : RawInstance) (e : ℕ) → HasFewPlaces i → length (places_at i e) ≤ 2 ^ 32
places_few i e h = by (slice_get i.events e) refl
  where
    by : (o : Option RawEvent) → slice_get i.events e ≡ o
        → length (option_map_or (λ event. event.resources) o []) ≤ 2 ^ 32
    by None is = omega arith
    by (Some x) is = let few : length x.resources < 2 ^ 32 =
        all-there (λ y. length y.resources < 2 ^ 32) i.events e x h.places is in
        omega (arith, few)

roles_few : (i : RawInstance) (role : List ℕ) (es : List ℕ) → HasFewPlaces i
    → length (flat_map (role_points i role) es) ≤ length es * 2 ^ 32
roles_few i role [] h = omega arith
roles_few i role (e ∷ es) h =
    let own = length_role_points i role e in
    let within = count_by-le-length (has_role role) (places_at i e) in
    omega (
      arith,
      length-append (role_points i role e) (flat_map (role_points i role) es),
      own,
      within,
      places_few i e h,
      roles_few i role es h,
    )

events_few : (i : RawInstance) (role : Option (List ℕ)) (es : List ℕ) → HasFewPlaces i → length es ≤ EVENTS
    → length (points_of_events i role es) ≤ 2 ^ 48
events_few i None es h few = omega (arith, length-map es event_point, few)
events_few i (Some role) es h few = omega (arith, roles_few i role es h, few)

events_once : (i : RawInstance) (c : RawConstraint) (role : Option (List ℕ)) (es : List ℕ)
    → All (λ p. watches_at i c p ≤ 1) (points_of_events i role es)
events_once i c None es = All-map (λ p. watches_at i c p ≤ 1) event_point es
    (each (λ e. watches_at i c (event_point e) ≤ 1) (λ e. le_refl 1) es)
events_once i c (Some role) es =
    All-flat_map (λ p. watches_at i c p ≤ 1) (role_points i role) es
    (λ e. (let ns = numbers_where (has_role role) (places_at i e) in
    All-map (λ p. watches_at i c p ≤ 1) (place_point e) ns
    (each (λ n. watches_at i c (place_point e n) ≤ 1) (λ n. le_refl 1) ns)))

pub events_bounded : (i : RawInstance) (c : RawConstraint) (groups events : List Ref) → c.applies ≡ Events groups events
    → HasFewPlaces i → length (first_mentions (listed_events i groups events)) ≤ EVENTS → IsBounded i c (2 ^ 48) 1
events_bounded i c groups events is h few =
    let ns = first_mentions (listed_events i groups events) in
    let points = sym (ap (points_in i (role_of c.rule)) is) in
    bounded i c (2 ^ 48) 1 (subst (λ ps. length ps ≤ 2 ^ 48) points (events_few i (role_of c.rule) ns h few))
    (subst (All (λ p. watches_at i c p ≤ 1)) points (events_once i c (role_of c.rule) ns))

-- groups
group_bounded : (i : RawInstance) (g : ℕ) → ((id : List ℕ) → length (events_in i id) ≤ EVENTS) → group_size i g ≤ EVENTS
group_bounded i g h = by (slice_get i.event_groups g)
  where
    by : (o : Option RawGroup) → option_map_or (λ (x : RawGroup). length (events_in i x.id.text)) o 0 ≤ EVENTS
    by None = omega arith
    by (Some x) = h x.id.text

pub groups_bounded : (i : RawInstance) (c : RawConstraint) (groups : List Ref) → c.applies ≡ Groups groups
    → ((id : List ℕ) → length (events_in i id) ≤ EVENTS)
    → length (first_mentions (numbers_of (event_group_ids i) groups)) ≤ 2 ^ 64 → IsBounded i c (2 ^ 64) EVENTS
groups_bounded i c groups is h few =
    let ns = first_mentions (numbers_of (event_group_ids i) groups) in
    let points = sym (ap (points_in i (role_of c.rule)) is) in
    let count : length (map EventGroup ns) ≤ 2 ^ 64 = omega (arith, length-map ns EventGroup, few) in
    bounded i c (2 ^ 64) EVENTS (subst (λ ps. length ps ≤ 2 ^ 64) points count)
    (subst (All (λ p. watches_at i c p ≤ EVENTS)) points (All-map (λ p. watches_at i c p ≤ EVENTS) EventGroup ns
    (each (λ g. group_size i g ≤ EVENTS) (λ g. group_bounded i g h) ns)))

-- pairs
pair_bounded : (i : RawInstance) (c : RawConstraint) (k : ℕ) → pair_size i c k ≤ 2
pair_bounded i c k = by (slice_get (pairs_of i c.applies) k)
  where
    choice : (b : Bool) → cond {A = ℕ} b 1 2 ≤ 2
    choice true = omega arith
    choice false = omega arith

    by : (o : Option Pair) → option_map_or named_in o 0 ≤ 2
    by None = omega arith
    by (Some q) = choice (eqb q.first.0 q.second.0)

pub pairs_bounded : (i : RawInstance) (c : RawConstraint) (pairs : List RawPair) → c.applies ≡ Pairs pairs
    → length pairs ≤ 2 ^ 64 → IsBounded i c (2 ^ 64) 2
pairs_bounded i c pairs is few =
    let ks = range_with_len 0 (length pairs) in
    let points = sym (ap (points_in i (role_of c.rule)) is) in
    let count : length (map EventPair ks) ≤ 2 ^ 64 = omega (arith, length-map-range_with_len EventPair 0 (length pairs), few) in
    bounded i c (2 ^ 64) 2 (subst (λ ps. length ps ≤ 2 ^ 64) points count)
    (subst (All (λ p. watches_at i c p ≤ 2)) points (All-map (λ p. watches_at i c p ≤ 2) EventPair ks
    (each (λ k. pair_size i c k ≤ 2) (pair_bounded i c) ks)))

-- resources
pub resources_bounded : (i : RawInstance) (c : RawConstraint) (groups resources : List Ref) (points : ℕ)
    → c.applies ≡ Resources groups resources → length (first_mentions (listed_resources i groups resources)) ≤ points
    → IsBounded i c points (watched_times i c.rule)
resources_bounded i c groups resources points is few =
    let ns = first_mentions (listed_resources i groups resources) in
    let own = sym (ap (points_in i (role_of c.rule)) is) in
    let count : length (map resource_point ns) ≤ points = omega (arith, length-map ns resource_point, few) in
    let most = watched_times i c.rule in
    bounded i c points most (subst (λ ps. length ps ≤ points) own count)
    (subst (All (λ p. watches_at i c p ≤ most)) own (All-map (λ p. watches_at i c p ≤ most) resource_point ns
    (each (λ r. watches_at i c (resource_point r) ≤ most) (λ r. le_refl most) ns)))
