-- What constraints of each form watch.
use Rattle.std.proofs.Common.{◌≡◌, ◌∙◌, sym, ap, ℕ, ◌+◌, ◌*◌, ◌<◌, suc, suc-mul, refl, arith, eqb, if◌then◌else◌, List}
use Rattle.std.proofs.Common.{[], ◌∷◌, map, length, drop, get_or, Option, Some, None, slice_get}
use Rattle.std.specs.List.{flat_map, range_with_len, sum_by}
use Rattle.std.specs.Option.{option_map_or}
use Rattle.std.proofs.lemmas.List.{drop_more, length-append, length-map}
use Rattle.std.proofs.lemmas.List.Concat.{length-flat_map}
use Rattle.std.proofs.lemmas.List.Elements.{filter_map-append}
use Rattle.std.proofs.lemmas.List.Sums.{sum_by-cons, sum_by-append}
use Rattle.khe_base.specs.Names.{number_of}
use Rattle.khe_instance.specs.declared.points.Point.TheVariants.{EventGroup, EventPair}
use Rattle.xhstt_references.specs.Ids.{event_group_ids, time_ids}
use Rattle.xhstt_resolve.specs.Limits.{group_size, named_in, watched_times, watches_at, watches_of}
use Rattle.xhstt_resolve.specs.Members.{first_mentions, numbers_of, numbers_where, listed_events, listed_resources}
use Rattle.xhstt_resolve.specs.Members.{listed_times, times_in}
use Rattle.xhstt_resolve.specs.Points.{event_point, has_role, place_point, places_at, points_in, points_of}
use Rattle.xhstt_resolve.specs.Points.{points_of_events, resource_point, role_of, role_points}
use Rattle.xhstt_resolve.specs.Rules.{event_named, pair_of, pairs_of}
use Rattle.xhstt_shape.specs.declared.constraints.RawApplies.TheVariants.{Events, Groups, Pairs, Resources}
use Rattle.xhstt_shape.specs.declared.constraints.RawConstraint.{RawConstraint}
use Rattle.xhstt_shape.specs.declared.constraints.RawPair.{RawPair}
use Rattle.xhstt_shape.specs.declared.records.RawInstance.{RawInstance}
use Rattle.xhstt_shape.specs.declared.records.Ref.{Ref}
use Rattle.khe_base.proofs.ListLemmas.{sum-mapped}

-- where each counts as much as any other
sum_same : {X : Type 0} (n : ℕ) (xs : List X) → sum_by (λ x. n) xs ≡ length xs * n
sum_same n [] = omega arith
sum_same n (x ∷ xs) =
    let more : n + length xs * n ≡ suc (length xs) * n = omega (arith, suc-mul (length xs) n) in
    sum_by-cons (λ y. n) x xs ∙ ap (λ r. n + r) (sum_same n xs) ∙ more

-- what references name, one reference more
pub numbers_step : (ids : List (List ℕ)) (xs : List Ref) (k : ℕ) (x : Ref) → k < length xs → x ≡ get_or xs k x
    → length (numbers_of ids (drop k xs)) ≡ length (numbers_of ids (x ∷ [])) + length (numbers_of ids (drop (k + 1) xs))
numbers_step ids xs k x l at =
    ap (λ ys. length (numbers_of ids ys)) (drop_more xs k x l ∙ ap (λ y. y ∷ drop (k + 1) xs) (sym at))
    ∙ ap length (filter_map-append (λ r. number_of r.id ids) (x ∷ []) (drop (k + 1) xs))
    ∙ length-append (numbers_of ids (x ∷ [])) (numbers_of ids (drop (k + 1) xs))

-- the times that are listed: those of the groups, and those named singly
pub length_listed_times : (i : RawInstance) (groups times : List Ref)
    → length (listed_times i groups times) ≡ sum_by (λ g. length (times_in i g.id)) groups + length
    (numbers_of (time_ids i) times)
length_listed_times i groups times =
    length-append (flat_map (λ g. times_in i g.id) groups) (numbers_of (time_ids i) times)
    ∙ ap (λ n. n + length (numbers_of (time_ids i) times)) (length-flat_map (λ g. times_in i g.id) groups)

-- events and event resources are watched once each
places_once : (i : RawInstance) (c : RawConstraint) (e : ℕ) (ns : List ℕ)
    → sum_by (watches_at i c) (map (place_point e) ns) ≡ length (map (place_point e) ns)
places_once i c e ns = let one = sum-mapped (watches_at i c) (place_point e) ns in let all = sum_same 1 ns in let size =
    length-map ns (place_point e) in omega (arith, one, all, size)

roles_once : (i : RawInstance) (c : RawConstraint) (role : List ℕ) (es : List ℕ)
    → sum_by (watches_at i c) (flat_map (role_points i role) es) ≡ length (flat_map (role_points i role) es)
roles_once i c role [] = refl
roles_once i c role (e ∷ es) =
    sum_by-append (watches_at i c) (role_points i role e) (flat_map (role_points i role) es)
    ∙ (λ j. places_once i c e (numbers_where (has_role role) (places_at i e)) j + roles_once i c role es j)
    ∙ sym (length-append (role_points i role e) (flat_map (role_points i role) es))

events_once : (i : RawInstance) (c : RawConstraint) (role : Option (List ℕ)) (es : List ℕ)
    → sum_by (watches_at i c) (points_of_events i role es) ≡ length (points_of_events i role es)
events_once i c None es = let one = sum-mapped (watches_at i c) event_point es in let all = sum_same 1 es in let size =
    length-map es event_point in omega (arith, one, all, size)
events_once i c (Some role) es = roles_once i c role es

pub event_watches : (i : RawInstance) (c : RawConstraint) (groups events : List Ref) → c.applies ≡ Events groups events
    → watches_of i c ≡ length (points_of i c)
event_watches i c groups events is =
    ap (λ a. sum_by (watches_at i c) (points_in i (role_of c.rule) a)) is
    ∙ events_once i c (role_of c.rule) (first_mentions (listed_events i groups events))
    ∙ sym (ap (λ a. length (points_in i (role_of c.rule) a)) is)

-- at a group its events are watched
pub group_watches : (i : RawInstance) (c : RawConstraint) (groups : List Ref) → c.applies ≡ Groups groups
    → watches_of i c ≡ sum_by (group_size i) (first_mentions (numbers_of (event_group_ids i) groups))
group_watches i c groups is =
    ap (λ a. sum_by (watches_at i c) (points_in i (role_of c.rule) a)) is
    ∙ sum-mapped (watches_at i c) EventGroup (first_mentions (numbers_of (event_group_ids i) groups))

-- at a resource the times of the rule are watched
pub resource_watches : (i : RawInstance) (c : RawConstraint) (groups resources : List Ref)
    → c.applies ≡ Resources groups resources
    → watches_of i c ≡ length (first_mentions (listed_resources i groups resources)) * watched_times i c.rule
resource_watches i c groups resources is =
    let ns = first_mentions (listed_resources i groups resources) in
    ap (λ a. sum_by (watches_at i c) (points_in i (role_of c.rule) a)) is
    ∙ sum-mapped (watches_at i c) resource_point ns ∙ sum_same (watched_times i c.rule) ns

-- how many events a pair names by its references
abbrev pub named_by : RawInstance → RawPair → ℕ
named_by i p = if eqb (event_named i p.first).0 (event_named i p.second).0 then 1 else 2

-- the sum over numbers from a place on is that over the pairs there
sum_numbers : {X Y : Type 0} (f : Y → ℕ) (g : X → Y) (all : List Y) (k : ℕ) (xs : List X)
    → ((j : ℕ) → slice_get (map g xs) j ≡ slice_get all (k + j))
    → sum_by (λ n. option_map_or f (slice_get all n) 0) (range_with_len k (length xs)) ≡ sum_by (λ x. f (g x)) xs
sum_numbers f g all k [] at = refl
sum_numbers f g all k (x ∷ xs) at =
    let z : k ≡ k + 0 = omega arith in
    let here : option_map_or f (slice_get all k) 0 ≡ f (g x) =
    ap (λ n. option_map_or f (slice_get all n) 0) z ∙ ap (λ o. option_map_or f o 0) (sym (at 0)) in
    let next : (j : ℕ) → slice_get (map g xs) j ≡ slice_get all (k + 1 + j) =
    λ j. (let s : k + suc j ≡ k + 1 + j = omega arith in at (suc j) ∙ ap (slice_get all) s) in
    sum_by-cons (λ n. option_map_or f (slice_get all n) 0) k (range_with_len (k + 1) (length xs))
    ∙ (λ j. here j + sum_numbers f g all (k + 1) xs next j)
    ∙ sym (sum_by-cons (λ y. f (g y)) x xs)

-- at a pair its events are watched
pub pair_watches : (i : RawInstance) (c : RawConstraint) (pairs : List RawPair) → c.applies ≡ Pairs pairs
    → watches_of i c ≡ sum_by (named_by i) pairs
pair_watches i c pairs is =
    let ks = range_with_len 0 (length pairs) in
    ap (λ a. sum_by (watches_at i c) (points_in i (role_of c.rule) a)) is
    ∙ sum-mapped (watches_at i c) EventPair ks
    ∙ ap (λ a. sum_by (λ k. option_map_or named_in (slice_get (pairs_of i a) k) 0) ks) is
    ∙ sum_numbers named_in (pair_of i) (map (pair_of i) pairs) 0 pairs
    (λ j. (let z : j ≡ 0 + j = omega arith in ap (slice_get (map (pair_of i) pairs)) z))
