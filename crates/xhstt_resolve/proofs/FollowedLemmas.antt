-- What constraints of each form are followed out into.
use Rattle.std.proofs.Common.{◌≡◌, ◌∙◌, sym, ap, ℕ, ◌+◌, suc, refl, arith, Option, Some, None, List, [], ◌∷◌, ◌++◌}
use Rattle.std.proofs.Common.{map, length, slice_get}
use Rattle.std.specs.List.{enumerate_from, flat_map, range_with_len}
use Rattle.std.specs.Option.{option_map_or}
use Rattle.khe_instance.specs.declared.points.Point.TheVariants.{EventPair}
use Rattle.khe_instance.specs.declared.rules.EventPair.{EventPair as Pair}
use Rattle.xhstt_resolve.specs.Followed.{visit_at, followed, event_visits, pair_visit, pair_visits, role_visits}
use Rattle.xhstt_resolve.specs.Limits.{named_in}
use Rattle.xhstt_resolve.specs.Members.{first_mentions, listed_events, numbers_where}
use Rattle.xhstt_resolve.specs.Points.{event_point, has_role, place_point, places_at, points_in, points_of_events}
use Rattle.xhstt_resolve.specs.Points.{role_of, role_points}
use Rattle.xhstt_resolve.specs.Rules.{pair_of, pairs_of}
use Rattle.xhstt_resolve.specs.declared.points.Visit.{Visit}
use Rattle.xhstt_resolve.proofs.AnswersLemmas.{map-twice}
use Rattle.xhstt_shape.specs.declared.constraints.RawApplies.TheVariants.{Events, Pairs}
use Rattle.xhstt_shape.specs.declared.constraints.RawConstraint.{RawConstraint}
use Rattle.xhstt_shape.specs.declared.constraints.RawPair.{RawPair}
use Rattle.xhstt_shape.specs.declared.records.RawInstance.{RawInstance}
use Rattle.xhstt_shape.specs.declared.records.Ref.{Ref}

map-joined : {A B : Type 0} (f : A → B) (xs ys : List A) → map f (xs ++ ys) ≡ map f xs ++ map f ys
map-joined f [] ys = refl
map-joined f (x ∷ xs) ys = ap (λ zs. f x ∷ zs) (map-joined f xs ys)

-- events, and their event resources of a role
roles_visited : (i : RawInstance) (c : RawConstraint) (role : List ℕ) (es : List ℕ)
    → map (visit_at i c) (flat_map (role_points i role) es) ≡ flat_map (role_visits i role) es
roles_visited i c role [] = refl
roles_visited i c role (e ∷ es) =
    map-joined (visit_at i c) (role_points i role e) (flat_map (role_points i role) es)
    ∙ (λ j. map-twice (visit_at i c) (place_point e) (numbers_where (has_role role) (places_at i e)) j
    ++ roles_visited i c role es j)

events_visited : (i : RawInstance) (c : RawConstraint) (role : Option (List ℕ)) (es : List ℕ)
    → map (visit_at i c) (points_of_events i role es) ≡ event_visits i role es
events_visited i c None es = map-twice (visit_at i c) event_point es
events_visited i c (Some role) es = roles_visited i c role es

pub followed_events : (i : RawInstance) (c : RawConstraint) (groups events : List Ref) → c.applies ≡ Events groups events
    → followed i c ≡ event_visits i (role_of c.rule) (first_mentions (listed_events i groups events))
followed_events i c groups events is =
    ap (λ a. map (visit_at i c) (points_in i (role_of c.rule) a)) is
    ∙ events_visited i c (role_of c.rule) (first_mentions (listed_events i groups events))

-- the pair with a number, among all pairs
abbrev numbered : List Pair → ℕ → Visit
numbered all k = record { point = EventPair k; watches = option_map_or named_in (slice_get all k) 0 }

-- pairs from a number on, where they stand among all pairs
pairs_visited : (i : RawInstance) (all : List Pair) (k : ℕ) (ps : List RawPair)
    → ((j : ℕ) → slice_get (map (pair_of i) ps) j ≡ slice_get all (k + j))
    → map (numbered all) (range_with_len k (length ps)) ≡ map (pair_visit i) (enumerate_from k ps)
pairs_visited i all k [] at = refl
pairs_visited i all k (p ∷ ps) at =
    let z : k ≡ k + 0 = omega arith in
    let here : option_map_or named_in (slice_get all k) 0 ≡ named_in (pair_of i p) =
    ap (λ n. option_map_or named_in (slice_get all n) 0) z ∙ ap (λ o. option_map_or named_in o 0) (sym (at 0)) in
    let next : (j : ℕ) → slice_get (map (pair_of i) ps) j ≡ slice_get all (k + 1 + j) =
    λ j. (let s : k + suc j ≡ k + 1 + j = omega arith in at (suc j) ∙ ap (slice_get all) s) in
    λ j. record { point = EventPair k; watches = here j } ∷ pairs_visited i all (k + 1) ps next j

pub followed_pairs : (i : RawInstance) (c : RawConstraint) (pairs : List RawPair) → c.applies ≡ Pairs pairs
    → followed i c ≡ pair_visits i pairs
followed_pairs i c pairs is =
    let ks = range_with_len 0 (length pairs) in
    ap (λ a. map (visit_at i c) (points_in i (role_of c.rule) a)) is
    ∙ map-twice (visit_at i c) EventPair ks
    ∙ ap (λ a. map (numbered (pairs_of i a)) ks) is
    ∙ pairs_visited i (map (pair_of i) pairs) 0 pairs
    (λ j. (let z : j ≡ 0 + j = omega arith in ap (slice_get (map (pair_of i) pairs)) z))
