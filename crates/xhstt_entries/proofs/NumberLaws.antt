-- The numbers that Ids name, where no two Ids are the same.
use Rattle.std.proofs.Common.{◌≡◌, ◌∙◌, sym, ap, refl, ℕ, ◌+◌, ◌<◌, true, false, cond, not, ltb, Some, None}
use Rattle.std.proofs.Common.{List, [], ◌∷◌, map, length, arith, slice_get, zero, suc}
use Rattle.std.specs.List.{position_or_len}
use Rattle.std.specs.Option.{option_map, option_map_or}
use Rattle.std.specs.Str.{bytes_eq}
use Rattle.std.proofs.lemmas.Bool.{and_parts, false≢true, false_from_ne_true, lt-ltb, not-true}
use Rattle.std.proofs.lemmas.List.Folds.{list_any_at}
use Rattle.std.proofs.lemmas.Option.{get_or_from_slice_get, same_Some, slice_get-map, slice_get_within}
use Rattle.std.proofs.lemmas.Slice.Eq.{bytes_eq-Decides}
use Rattle.khe_base.proofs.ListLemmas.{there}
use Rattle.khe_base.specs.Names.{are_distinct, is_among_names, number_of}
use Rattle.khe_base.specs.declared.numbers.EventId.{EventId}
use Rattle.khe_base.specs.declared.numbers.ResourceId.{ResourceId}
use Rattle.khe_base.specs.declared.numbers.TimeId.{TimeId}
use Rattle.khe_instance.specs.Named.{event_named, resource_named, time_named}
use Rattle.khe_instance.specs.WellMade.{AreWellMade}
use Rattle.khe_instance.specs.declared.parts.EventInfo.{EventInfo}
use Rattle.khe_instance.specs.declared.parts.Parts.{Parts}
use Rattle.khe_instance.specs.declared.parts.ResourceInfo.{ResourceInfo}
use Rattle.xhstt_entries.specs.Spelled.{event_id, resource_id, time_id}

pub same_name : (a : List ℕ) → bytes_eq a a ≡ true
same_name a = (bytes_eq-Decides a a).1 refl

pub other_way : (a b : List ℕ) → bytes_eq a b ≡ false → bytes_eq b a ≡ false
other_way a b h = false_from_ne_true (bytes_eq b a)
    (λ e. false≢true (sym h ∙ (bytes_eq-Decides a b).1 (sym ((bytes_eq-Decides b a).0 e))))

-- a name that stands among others is one of them
pub among_at : (names : List (List ℕ)) (k : ℕ) (name : List ℕ) → slice_get names k ≡ Some name
    → is_among_names name names ≡ true
among_at names k name at = list_any_at (λ n. bytes_eq name n) names k name (slice_get_within names k name at)
    (ap (bytes_eq name) (get_or_from_slice_get names k name name at) ∙ same_name name)

-- among distinct names a name stands first where it stands
place_at : (names : List (List ℕ)) (k : ℕ) (name : List ℕ) → are_distinct names ≡ true → slice_get names k ≡ Some name
    → position_or_len (λ n. bytes_eq name n) names ≡ k
place_at [] k name distinct at = cc
place_at (x ∷ xs) zero name distinct at =
    let same : x ≡ name = same_Some x name at in
    let here : bytes_eq name x ≡ true = ap (bytes_eq name) same ∙ same_name name in
    ap (λ b. cond (not b) (1 + position_or_len (λ n. bytes_eq name n) xs) 0) here
place_at (x ∷ xs) (suc k) name distinct at =
    let parts = and_parts (not (is_among_names x xs)) (are_distinct xs) distinct in
    let apart : bytes_eq name x ≡ false = false_from_ne_true (bytes_eq name x)
    (λ e. false≢true (sym (not-true (is_among_names x xs) parts.0)
    ∙ ap (λ n. is_among_names n xs) (sym ((bytes_eq-Decides name x).0 e)) ∙ among_at xs k name at)) in
    let later = place_at xs k name parts.1 at in
    let next : 1 + k ≡ suc k = omega arith in
    ap (λ b. cond (not b) (1 + position_or_len (λ n. bytes_eq name n) xs) 0) apart ∙ ap (λ n. 1 + n) later ∙ next

-- so it has the number of its place
pub number_at : (names : List (List ℕ)) (k : ℕ) (name : List ℕ) → are_distinct names ≡ true
    → slice_get names k ≡ Some name → number_of name names ≡ Some k
number_at names k name distinct at =
    let place = place_at names k name distinct at in
    ap (λ n. cond (ltb n (length names)) (Some n) None) place
    ∙ ap (λ b. cond b (Some k) None) (lt-ltb k (length names) (slice_get_within names k name at))

-- the Id of what stands at a place of a list
numbered_back : {X : Type 0} (f : X → List ℕ) (xs : List X) (k : ℕ) → are_distinct (map f xs) ≡ true → k < length xs
    → number_of (option_map_or f (slice_get xs k) []) (map f xs) ≡ Some k
numbered_back f xs k distinct l =
    let at = there xs k l in
    let id : option_map_or f (slice_get xs k) [] ≡ f at.value = ap (λ o. option_map_or f o []) at.found in
    ap (λ name. number_of name (map f xs)) id
    ∙ number_at (map f xs) k (f at.value) distinct (slice_get-map f xs k ∙ ap (option_map f) at.found)

pub event_back : (p : Parts) (e : EventId) → AreWellMade p → e.0 < length p.events
    → event_named p (event_id p e) ≡ Some e
event_back p e made l = ap (option_map (λ n. record { 0 = n }))
    (numbered_back (λ (x : EventInfo). x.id) p.events e.0 made.events_distinct l)

pub resource_back : (p : Parts) (r : ResourceId) → AreWellMade p → r.0 < length p.resources
    → resource_named p (resource_id p r) ≡ Some r
resource_back p r made l = ap (option_map (λ n. record { 0 = n }))
    (numbered_back (λ (x : ResourceInfo). x.id) p.resources r.0 made.resources_distinct l)

pub time_back : (p : Parts) (t : TimeId) → AreWellMade p → t.0 < length p.times
    → time_named p (time_id p t) ≡ Some t
time_back p t made l =
    let at = there p.times t.0 l in
    let id : time_id p t ≡ at.value = ap (λ o. option_map_or (λ (x : List ℕ). x) o []) at.found in
    ap (option_map (λ n. record { 0 = n }))
    (ap (λ name. number_of name p.times) id ∙ number_at p.times t.0 at.value made.times_distinct at.found)
