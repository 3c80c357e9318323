-- What the Ids that are written name.
use Rattle.std.proofs.Common.{◌≡◌, ◌∙◌, sym, ap, subst, refl, ℕ, ◌<◌, true, cond, Option, Some, None, List, [], ◌∷◌}
use Rattle.std.proofs.Common.{map, length, get_or, arith, slice_get}
use Rattle.std.specs.Prelude.{IsSome}
use Rattle.std.specs.List.{list_any, position_or_len}
use Rattle.std.specs.Option.{option_map, option_map_or}
use Rattle.std.specs.Str.{bytes_eq}
use Rattle.std.proofs.lemmas.List.{get_or-map, length-map}
use Rattle.khe_base.proofs.ListLemmas.{below_length}
use Rattle.std.proofs.lemmas.List.Folds.{list_any_at}
use Rattle.std.proofs.lemmas.Option.{slice_get-get_or}
use Rattle.std.proofs.lemmas.Slice.Eq.{bytes_eq-Decides}
use Rattle.khe_base.specs.Names.{number_of}
use Rattle.khe_base.specs.declared.numbers.EventId.{EventId}
use Rattle.khe_base.specs.declared.numbers.ResourceId.{ResourceId}
use Rattle.khe_base.specs.declared.numbers.TimeId.{TimeId}
use Rattle.khe_instance.specs.Named.{event_named, resource_named, time_named}
use Rattle.khe_instance.specs.declared.parts.EventInfo.{EventInfo}
use Rattle.khe_instance.specs.declared.parts.Parts.{Parts}
use Rattle.khe_instance.specs.declared.parts.ResourceInfo.{ResourceInfo}
use Rattle.xhstt_entries.specs.Spelled.{event_id, resource_id, time_id}

-- a name that stands among names has a number
pub numbered : (id : List ℕ) (ids : List (List ℕ)) (k : ℕ) → k < length ids → get_or ids k id ≡ id
    → IsSome (number_of id ids)
numbered id ids k l at =
    let p = λ (n : List ℕ). bytes_eq id n in
    let found : list_any p ids ≡ true = list_any_at p ids k id l (ap p at ∙ (bytes_eq-Decides id id).1 refl) in
    subst (λ b. IsSome (cond b (Some (position_or_len p ids)) None)) (sym (below_length p ids ∙ found)) refl

named_some : {A : Type 0} (f : ℕ → A) (o : Option ℕ) → IsSome o → IsSome (option_map f o)
named_some f None h = h
named_some f (Some n) h = refl

-- so the Id of what stands at a place of a list has one
named_at : {X : Type 0} (f : X → List ℕ) (xs : List X) (k : ℕ) → k < length xs
    → IsSome (number_of (option_map_or f (slice_get xs k) []) (map f xs))
named_at f [] k l = absurd (omega (arith, l))
named_at f (x ∷ xs) k l =
    let d = get_or (x ∷ xs) k x in
    let id : option_map_or f (slice_get (x ∷ xs) k) [] ≡ f d =
    ap (λ o. option_map_or f o []) (slice_get-get_or (x ∷ xs) k x l) in
    let long : length (map f (x ∷ xs)) ≡ length (x ∷ xs) = length-map (x ∷ xs) f in
    subst (λ name. IsSome (number_of name (map f (x ∷ xs)))) (sym id)
    (numbered (f d) (map f (x ∷ xs)) k (omega (arith, l, long)) (get_or-map f (x ∷ xs) k x (f d) l))

pub event_is_named : (p : Parts) (e : EventId) → e.0 < length p.events → IsSome (event_named p (event_id p e))
event_is_named p e l = named_some (λ n. record { 0 = n }) (number_of (event_id p e) (map (λ x. x.id) p.events))
    (named_at (λ (x : EventInfo). x.id) p.events e.0 l)

pub resource_is_named : (p : Parts) (r : ResourceId) → r.0 < length p.resources
    → IsSome (resource_named p (resource_id p r))
resource_is_named p r l = named_some (λ n. record { 0 = n }) (number_of (resource_id p r) (map (λ x. x.id) p.resources))
    (named_at (λ (x : ResourceInfo). x.id) p.resources r.0 l)

pub time_is_named : (p : Parts) (t : TimeId) → t.0 < length p.times → IsSome (time_named p (time_id p t))
time_is_named p t l =
    named_some (λ n. record { 0 = n }) (number_of (time_id p t) p.times)
    (subst (λ names. IsSome (number_of (time_id p t) names)) (map-same p.times)
    (named_at (λ (x : List ℕ). x) p.times t.0 l))
  where
    map-same : (xs : List (List ℕ)) → map (λ (x : List ℕ). x) xs ≡ xs
    map-same [] = refl
    map-same (x ∷ xs) = ap (λ l. x ∷ l) (map-same xs)
