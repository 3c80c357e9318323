-- The lists of roles as event resources come, and those of one event among the event resources of a role.
use Rattle.std.proofs.Common.{◌≡◌, ◌∙◌, sym, ap, ℕ, ◌+◌, ◌<◌, ◌≤◌, suc, zero, refl, arith, Bool, true, false, cond}
use Rattle.std.proofs.Common.{if◌then◌else◌, Option, Some, None, List, [], ◌∷◌, ◌++◌, map, length, take, drop, get_or}
use Rattle.std.proofs.Common.{set, slice_get, eqb, ltb, leb, append_assoc}
use Rattle.std.specs.List.{All, filter, flat_map, position_from}
use Rattle.std.specs.List.Sorted.{IsNonDecreasingBy, IsPartitionPoint}
use Rattle.std.specs.Option.{option_map_or, option_or}
use Rattle.std.specs.Str.{bytes_eq}
use Rattle.std.proofs.lemmas.Bool.{eq-eqb, eqb-true, ne_eqb, leb-false, leb-true, ltb-false, ltb-true, true≢false}
use Rattle.std.proofs.lemmas.Iterator.Adapters.{position_from-zero}
use Rattle.std.proofs.lemmas.List.{append-nil, get_or_append_left, get_or-append-add, get_or-set_same, get_or-set_other}
use Rattle.std.proofs.lemmas.List.{get_or-take, get_or-drop, length-take-le, length-drop, take-append-drop}
use Rattle.std.proofs.lemmas.List.Elements.{All-nil, All-cons, filter-append}
use Rattle.std.proofs.lemmas.List.Quantifiers.{position-Some}
use Rattle.std.proofs.lemmas.Slice.Eq.{bytes_eq-Decides}
use Rattle.khe_base.specs.Names.{number_of, with_name}
use Rattle.khe_base.proofs.ListLemmas.{filter-all, filter-none}
use Rattle.xhstt_resolve.specs.Followed.{role_visits, visit_of, visits_at}
use Rattle.xhstt_resolve.specs.Members.{numbers_from, numbers_where}
use Rattle.xhstt_resolve.specs.Points.{has_role, places_at}
use Rattle.xhstt_resolve.specs.Roles.{held, is_at, places_from, places_with, role_place}
use Rattle.xhstt_resolve.specs.declared.roles.RolePlace.{RolePlace}
use Rattle.xhstt_resolve.proofs.AnswersLemmas.{map-twice}
use Rattle.xhstt_resolve.proofs.JoinedLemmas.{is_among_none}
use Rattle.xhstt_shape.specs.declared.records.Name.{Name}
use Rattle.xhstt_shape.specs.declared.records.RawEvent.{RawEvent}
use Rattle.xhstt_shape.specs.declared.records.RawEventResource.{RawEventResource}
use Rattle.xhstt_shape.specs.declared.records.RawInstance.{RawInstance}

-- the number of a name where there is one name more
place_in_more : (test : List ℕ → Bool) (k : ℕ) (xs : List (List ℕ)) (y : List ℕ)
    → position_from test k (xs ++ y ∷ [])
    ≡ option_or (position_from test k xs) (cond (test y) (Some (k + length xs)) None)
place_in_more test k [] y = let z : k ≡ k + 0 = omega arith in ap (λ n. cond (test y) (Some n) None) z
place_in_more test k (x ∷ xs) y = by (test x) (place_in_more test (k + 1) xs y)
  where
    by : (b : Bool) → position_from test (k + 1) (xs ++ y ∷ [])
        ≡ option_or (position_from test (k + 1) xs) (cond (test y) (Some (k + 1 + length xs)) None)
        → cond b (Some k) (position_from test (k + 1) (xs ++ y ∷ []))
        ≡ option_or (cond b (Some k) (position_from test (k + 1) xs)) (cond (test y) (Some (k + suc (length xs))) None)
    by true h = refl
    by false h = let e : k + 1 + length xs ≡ k + suc (length xs) = omega arith in
        h ∙ ap (λ n. option_or (position_from test (k + 1) xs) (cond (test y) (Some n) None)) e

number_in_more : (r : List ℕ) (names : List (List ℕ)) (role : List ℕ)
    → number_of r (names ++ role ∷ [])
    ≡ option_or (number_of r names) (cond (bytes_eq r role) (Some (length names)) None)
number_in_more r names role =
    let test : List ℕ → Bool = λ n. bytes_eq r n in
    let z : 0 + length names ≡ length names = omega arith in
    position_from-zero test (names ++ role ∷ [])
    ∙ place_in_more test 0 names role
    ∙ ap (λ n. option_or (position_from test 0 names) (cond (bytes_eq r role) (Some n) None)) z
    ∙ ap (λ o. option_or o (cond (bytes_eq r role) (Some (length names)) None)) (sym (position_from-zero test names))

-- what stands at a number
abbrev list_at : List (List RolePlace) → Option ℕ → List RolePlace
list_at lists o = option_map_or (λ n. get_or lists n []) o []

-- a role that has no number goes last
pub goes_last : (names : List (List ℕ)) (role : List ℕ) → number_of role names ≡ None
    → with_name role names ≡ names ++ role ∷ []
goes_last names role h = ap (λ b. if b then names else names ++ role ∷ []) (is_among_none role names h)

pub numbered_last : (names : List (List ℕ)) (role : List ℕ) → number_of role names ≡ None
    → number_of role (with_name role names) ≡ Some (length names)
numbered_last names role h =
    ap (number_of role) (goes_last names role h)
    ∙ number_in_more role names role
    ∙ (λ i. option_or (h i) (cond ((bytes_eq-Decides role role).1 refl i) (Some (length names)) None))

-- and all roles lead to what they led to
pub held_still : (names : List (List ℕ)) (lists : List (List RolePlace)) (role r : List ℕ) → number_of role names ≡ None
    → length names ≡ length lists → held (with_name role names) (lists ++ [] ∷ []) r ≡ held names lists r
held_still names lists role r new whole =
    ap (λ ns. list_at (lists ++ [] ∷ []) (number_of r ns)) (goes_last names role new)
    ∙ ap (list_at (lists ++ [] ∷ [])) (number_in_more r names role)
    ∙ by (number_of r names) refl (bytes_eq r role)
  where
    by : (o : Option ℕ) → number_of r names ≡ o → (b : Bool)
        → list_at (lists ++ [] ∷ []) (option_or o (cond b (Some (length names)) None)) ≡ list_at lists o
    by (Some n) e b =
        let l : n < length lists = omega (arith, (position-Some (λ x. bytes_eq r x) names n r e).0, whole) in
        get_or_append_left lists ([] ∷ []) [] n l
    by None e true =
        let z : length names ≡ length lists + 0 = omega (arith, whole) in
        ap (λ n. get_or (lists ++ [] ∷ []) n []) z ∙ get_or-append-add lists ([] ∷ []) 0 []
    by None e false = refl

-- one event resource more in the list of its role
pub held_more : (names : List (List ℕ)) (lists : List (List RolePlace)) (role r : List ℕ) (k : ℕ) (p : RolePlace)
    → number_of role names ≡ Some k → length names ≡ length lists
    → held names (set lists k (get_or lists k [] ++ p ∷ [])) r
    ≡ held names lists r ++ (if bytes_eq role r then p ∷ [] else [])
held_more names lists role r k p h whole = by (bytes_eq role r) refl
  where
    more : List (List RolePlace)
    more = set lists k (get_or lists k [] ++ p ∷ [])

    place : (k < length names) × (bytes_eq role (get_or names k r) ≡ true)
        × ((j : ℕ) → j < k → bytes_eq role (get_or names j r) ≡ false)
    place = position-Some (λ n. bytes_eq role n) names k r h

    other : (o : Option ℕ) → number_of r names ≡ o → bytes_eq role r ≡ false → list_at more o ≡ list_at lists o ++ []
    other None e ne = refl
    other (Some n) e ne =
        let own = position-Some (λ x. bytes_eq r x) names n r e in
        let apart : n ≡ k → ⊥ = λ same. true≢false (sym ((bytes_eq-Decides role r).1
        ((bytes_eq-Decides role (get_or names k r)).0 place.1
        ∙ ap (λ j. get_or names j r) (sym same)
        ∙ sym ((bytes_eq-Decides r (get_or names n r)).0 own.1))) ∙ ne) in
        get_or-set_other lists k n (get_or lists k [] ++ p ∷ []) [] apart ∙ sym (append-nil (get_or lists n []))

    by : (b : Bool) → bytes_eq role r ≡ b → list_at more (number_of r names)
        ≡ list_at lists (number_of r names) ++ (if b then p ∷ [] else [])
    by true e =
        let at : number_of r names ≡ Some k = ap (λ n. number_of n names) (sym ((bytes_eq-Decides role r).0 e)) ∙ h in
        let l : k < length lists = omega (arith, place.0, whole) in
        ap (list_at more) at
        ∙ get_or-set_same lists k (get_or lists k [] ++ p ∷ []) [] l
        ∙ sym (ap (λ o. list_at lists o ++ p ∷ []) at)
    by false e = other (number_of r names) refl e

-- steps of the loops: an event resource more, and an event more
pub resource_more : (before after : List RolePlace) (e k : ℕ) (role : List ℕ) (x : RawEventResource)
    (rest all : List RawEventResource) → all ≡ x ∷ rest
    → after ≡ before ++ (if has_role role x then role_place e k ∷ [] else [])
    → after ++ map (role_place e) (numbers_from (has_role role) (k + 1) rest)
    ≡ before ++ map (role_place e) (numbers_from (has_role role) k all)
resource_more before after e k role x rest all is h =
    ap (λ a. a ++ later) h ∙ by (has_role role x)
    ∙ ap (λ xs. before ++ map (role_place e) (numbers_from (has_role role) k xs)) (sym is)
  where
    ns : List ℕ
    ns = numbers_from (has_role role) (k + 1) rest

    later : List RolePlace
    later = map (role_place e) ns

    by : (b : Bool) → (before ++ (if b then role_place e k ∷ [] else [])) ++ later
        ≡ before ++ map (role_place e) ((if b then k ∷ [] else []) ++ ns)
    by true = append_assoc before (role_place e k ∷ []) later
    by false = ap (λ b. b ++ later) (append-nil before)

pub event_more : (before after : List RolePlace) (k : ℕ) (role : List ℕ) (x : RawEvent) (rest all : List RawEvent)
    → all ≡ x ∷ rest → after ≡ before ++ map (role_place k) (numbers_where (has_role role) x.resources)
    → after ++ places_from role (k + 1) rest ≡ before ++ places_from role k all
event_more before after k role x rest all is h =
    let own = map (role_place k) (numbers_where (has_role role) x.resources) in
    ap (λ a. a ++ places_from role (k + 1) rest) h
    ∙ append_assoc before own (places_from role (k + 1) rest)
    ∙ ap (λ xs. before ++ places_from role k xs) (sym is)

-- the event resources of one event among those of a role
own_places : (k j : ℕ) (ns : List ℕ) → k ≡ j → filter (is_at j) (map (role_place k) ns) ≡ map (role_place k) ns
own_places k j [] e = refl
own_places k j (n ∷ ns) e =
    let rest = own_places k j ns e in
    ap (λ b. cond b (role_place k n ∷ filter (is_at j) (map (role_place k) ns)) (filter (is_at j) (map (role_place k) ns)))
    (eq-eqb k j e)
    ∙ ap (λ ps. role_place k n ∷ ps) rest

other_places : (k j : ℕ) (ns : List ℕ) → (k ≡ j → ⊥) → filter (is_at j) (map (role_place k) ns) ≡ []
other_places k j [] e = refl
other_places k j (n ∷ ns) e =
    ap (λ b. cond b (role_place k n ∷ filter (is_at j) (map (role_place k) ns)) (filter (is_at j) (map (role_place k) ns)))
    (ne_eqb k j e)
    ∙ other_places k j ns e

none_before : (role : List ℕ) (k j : ℕ) (es : List RawEvent) → j < k → filter (is_at j) (places_from role k es) ≡ []
none_before role k j [] l = refl
none_before role k j (x ∷ es) l =
    let ns = numbers_where (has_role role) x.resources in
    let apart : k ≡ j → ⊥ = λ e. (let g : ⊥ = omega (arith, e, l) in g) in
    let below : j < k + 1 = omega (arith, l) in
    filter-append (is_at j) (map (role_place k) ns) (places_from role (k + 1) es)
    ∙ (λ i. other_places k j ns apart i ++ none_before role (k + 1) j es below i)

abbrev own_numbers : List ℕ → Option RawEvent → List ℕ
own_numbers role o = numbers_where (has_role role) (option_map_or (λ event. event.resources) o [])

places_found : (role : List ℕ) (k e j : ℕ) (es : List RawEvent) → j ≡ k + e
    → filter (is_at j) (places_from role k es) ≡ map (role_place j) (own_numbers role (slice_get es e))
places_found role k e j [] h = refl
places_found role k zero j (x ∷ es) h =
    let ns = numbers_where (has_role role) x.resources in
    let same : k ≡ j = omega (arith, h) in
    let below : j < k + 1 = omega (arith, h) in
    filter-append (is_at j) (map (role_place k) ns) (places_from role (k + 1) es)
    ∙ (λ i. own_places k j ns same i ++ none_before role (k + 1) j es below i)
    ∙ append-nil (map (role_place k) ns)
    ∙ ap (λ n. map (role_place n) ns) same
places_found role k (suc e) j (x ∷ es) h =
    let ns = numbers_where (has_role role) x.resources in
    let apart : k ≡ j → ⊥ = λ s. (let g : ⊥ = omega (arith, h, s) in g) in
    let next : j ≡ k + 1 + e = omega (arith, h) in
    filter-append (is_at j) (map (role_place k) ns) (places_from role (k + 1) es)
    ∙ (λ i. other_places k j ns apart i ++ places_found role (k + 1) e j es next i)

role_visited : (i : RawInstance) (role : List ℕ) (e : ℕ) → visits_at (places_with i role) e ≡ role_visits i role e
role_visited i role e =
    let z : e ≡ 0 + e = omega arith in
    ap (map visit_of) (places_found role 0 e e i.events z)
    ∙ map-twice visit_of (role_place e) (numbers_where (has_role role) (places_at i e))

-- events, and the event resources of a role, one event after the other
pub roles_visited : (i : RawInstance) (role : List ℕ) (es : List ℕ)
    → flat_map (visits_at (places_with i role)) es ≡ flat_map (role_visits i role) es
roles_visited i role [] = refl
roles_visited i role (e ∷ es) = λ j. role_visited i role e j ++ roles_visited i role es j

nothing_visited : (es : List ℕ) → flat_map (visits_at []) es ≡ []
nothing_visited [] = refl
nothing_visited (e ∷ es) = nothing_visited es

pub absent_role : (i : RawInstance) (role : List ℕ) (places : List RolePlace) (es : List ℕ)
    → places ≡ places_with i role → eqb (length places) 0 ≡ true → flat_map (role_visits i role) es ≡ []
absent_role i role places es is none = sym (roles_visited i role es) ∙ by places none (sym is)
  where
    by : (ps : List RolePlace) → eqb (length ps) 0 ≡ true → places_with i role ≡ ps
        → flat_map (visits_at (places_with i role)) es ≡ []
    by [] h e = ap (λ ps. flat_map (visits_at ps) es) e ∙ nothing_visited es
    by (p ∷ ps) h e = absurd (let none = eqb-true (suc (length ps)) 0 h in let g : ⊥ = omega (arith, none) in g)

-- they come in the order of the events
abbrev pub event_in : RolePlace → ℕ
event_in p = p.event

rise-cons : (p : RolePlace) (ps : List RolePlace) → All (λ q. p.event ≤ q.event) ps → IsNonDecreasingBy event_in ps
    → IsNonDecreasingBy event_in (p ∷ ps)
rise-cons p ps h up zero zero d l m = omega arith
rise-cons p ps h up zero (suc j) d l m = let n : j < length ps = omega (arith, m) in h j d n
rise-cons p ps h up (suc i) zero d l m = absurd (omega (arith, l))
rise-cons p ps h up (suc i) (suc j) d l m =
    let k : i ≤ j = omega (arith, l) in let n : j < length ps = omega (arith, m) in up i j d k n

record ArePlacesFrom (k : ℕ) (ps : List RolePlace) : Type 0 where
  least : All (λ p. k ≤ p.event) ps
  rise : IsNonDecreasingBy event_in ps

event_first : (k : ℕ) (ns : List ℕ) (ps : List RolePlace) → ArePlacesFrom k ps
    → ArePlacesFrom k (map (role_place k) ns ++ ps)
event_first k [] ps is = is
event_first k (n ∷ ns) ps is =
    let rest = event_first k ns ps is in
    let here : k ≤ k = omega arith in
    record {
      least = All-cons (λ p. k ≤ p.event) (role_place k n) (map (role_place k) ns ++ ps) here rest.least;
      rise = rise-cons (role_place k n) (map (role_place k) ns ++ ps) rest.least rest.rise;
    }

places_rise : (role : List ℕ) (k : ℕ) (es : List RawEvent) → ArePlacesFrom k (places_from role k es)
places_rise role k [] = record {
  least = All-nil (λ p. k ≤ p.event);
  rise = λ i j d l m. absurd (omega (arith, m));
}
places_rise role k (x ∷ es) =
    let rest = places_rise role (k + 1) es in
    event_first k (numbers_where (has_role role) x.resources) (places_from role (k + 1) es) (record {
      least = λ i d l. omega (arith, rest.least i d l);
      rise = rest.rise;
    })

pub places_ordered : (i : RawInstance) (role : List ℕ) → IsNonDecreasingBy event_in (places_with i role)
places_ordered i role = (places_rise role 0 i.events).rise

-- what stands between two searches
pub between : (ps : List RolePlace) (e start end : ℕ)
    → IsPartitionPoint (λ p. ltb p.event e ≡ true) (λ p. ltb p.event e ≡ false) ps start → start ≤ length ps
    → IsPartitionPoint (λ p. leb p.event e ≡ true) (λ p. leb p.event e ≡ false) (drop start ps) end
    → end ≤ length (drop start ps)
    → take end (drop start ps) ≡ filter (is_at e) ps
between ps e start end low start_in high end_in =
    sym (ap (filter (is_at e)) (sym (take-append-drop start ps))
    ∙ filter-append (is_at e) (take start ps) rest
    ∙ ap (λ qs. qs ++ filter (is_at e) rest) (filter-none (is_at e) (take start ps) before)
    ∙ ap (filter (is_at e)) (sym (take-append-drop end rest))
    ∙ filter-append (is_at e) (take end rest) (drop end rest)
    ∙ (λ i. filter-all (is_at e) (take end rest) here i ++ filter-none (is_at e) (drop end rest) after i)
    ∙ append-nil (take end rest))
  where
    rest : List RolePlace
    rest = drop start ps

    before : All (λ p. is_at e p ≡ false) (take start ps)
    before k d l =
        let sized = length-take-le start ps start_in in
        let below : k < start = omega (arith, l, sized) in
        let less = ltb-true (get_or ps k d).event e (low.0 k d (omega arith) below) in
        ap (is_at e) (get_or-take start ps k d below)
        ∙ ne_eqb (get_or ps k d).event e (λ s. (let g : ⊥ = omega (arith, less, s) in g))

    here : All (λ p. is_at e p ≡ true) (take end rest)
    here k d l =
        let sized = length-take-le end rest end_in in
        let below : k < end = omega (arith, l, sized) in
        let whole = length-drop start ps in
        let inside : start + k < length ps = omega (arith, below, end_in, whole, start_in) in
        let past : start ≤ start + k = omega arith in
        let same = get_or-drop start ps k d in
        let most : (get_or rest k d).event ≤ e = leb-true (get_or rest k d).event e (high.0 k d (omega arith) below) in
        let least : e ≤ (get_or ps (start + k) d).event = ltb-false (get_or ps (start + k) d).event e
        (low.1 (start + k) d past inside) in
        let alike = ap event_in same in
        let equal : (get_or rest k d).event ≡ e = omega (arith, most, least, alike) in
        ap (is_at e) (get_or-take end rest k d below) ∙ eq-eqb (get_or rest k d).event e equal

    after : All (λ p. is_at e p ≡ false) (drop end rest)
    after k d l =
        let whole = length-drop end rest in
        let inside : end + k < length rest = omega (arith, l, whole) in
        let past : end ≤ end + k = omega arith in
        let more = leb-false (get_or rest (end + k) d).event e (high.1 (end + k) d past inside) in
        ap (is_at e) (get_or-drop end rest k d)
        ∙ ne_eqb (get_or rest (end + k) d).event e (λ s. (let g : ⊥ = omega (arith, more, s) in g))

-- an event resource with and without a role
abbrev is_named : List ℕ → Option Name → Bool
is_named role o = option_map_or (λ name. bytes_eq name.text role) o false

pub role_noted : (role : List ℕ) (before : List RolePlace) (p : RolePlace) (o : Option Name) (name : Name)
    → o ≡ Some name → before ++ (if bytes_eq name.text role then p ∷ [] else [])
    ≡ before ++ (if is_named role o then p ∷ [] else [])
role_noted role before p o name is = ap (λ x. before ++ (if is_named role x then p ∷ [] else [])) (sym is)

pub no_role_noted : (role : List ℕ) (before : List RolePlace) (p : RolePlace) (o : Option Name) → o ≡ None
    → before ≡ before ++ (if is_named role o then p ∷ [] else [])
no_role_noted role before p o is =
    sym (append-nil before) ∙ ap (λ x. before ++ (if is_named role x then p ∷ [] else [])) (sym is)
