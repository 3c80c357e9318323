-- The place of a role, and the type of the resource that is given for it.
use Rattle.std.proofs.Common.{ℕ, ◌≡◌, ◌∙◌, ◌<◌, Bool, true, false, not, ◌||◌, Option, Some, None, List, [], ◌∷◌, ◌++◌}
use Rattle.std.proofs.Common.{length, slice_get, refl, sym, ap, subst, arith, map, zero, suc}
use Rattle.std.specs.Prelude.{All, find, IfSome, ◌==◌, is_none}
use Rattle.std.specs.List.{filter_map, cons_option}
use Rattle.std.specs.Option.{option_or, option_map, option_map_or, option_and_then}
use Rattle.std.specs.Str.{bytes_eq}
use Rattle.std.proofs.lemmas.Bool.{true≢false, and_parts, or_left, or_right, eqb-true, not-false, not_from_true}
use Rattle.std.proofs.lemmas.Bool.{cond-true, cond-false}
use Rattle.std.proofs.lemmas.List.{length-map}
use Rattle.std.proofs.lemmas.List.Elements.{All-nil, All-cons}
use Rattle.std.proofs.lemmas.List.Quantifiers.{position-Some}
use Rattle.std.proofs.lemmas.Option.{none-some, same_Some, get_or_from_slice_get, slice_get_within}
use Rattle.std.proofs.lemmas.Slice.Eq.{bytes_eq-Decides}
use Rattle.khe_base.specs.Names.{is_among_names, are_distinct, number_of}
use Rattle.khe_base.specs.declared.numbers.ResourceId.{ResourceId}
use Rattle.khe_instance.specs.Lookups.{is_role}
use Rattle.khe_instance.specs.Named.{resource_named}
use Rattle.khe_instance.specs.WellMade.{HasType, IsEvent, IsPlace}
use Rattle.khe_instance.specs.declared.parts.EventInfo.{EventInfo}
use Rattle.khe_instance.specs.declared.parts.Parts.{Parts}
use Rattle.khe_instance.specs.declared.parts.Place.{Place}
use Rattle.khe_instance.specs.declared.parts.ResourceInfo.{ResourceInfo}
use Rattle.xhstt_completion.specs.Causes.{place_for, is_place_for, came_before, differ_in_resource, has_other_type}
use Rattle.xhstt_completion.specs.Causes.{place_cause, given_cause, first_given_cause}
use Rattle.xhstt_completion.specs.Completed.{given_for, resource_at}
use Rattle.xhstt_completion.specs.Entries.{resource_of, role_of}
use Rattle.fault_tables.specs.declared.causes.TheConstants.{BAD_ROLE, FIXED_RESOURCE, WRONG_TYPE}
use Rattle.xhstt_completion.proofs.CausesLemmas.{unless-first}
use Rattle.xhstt_completion.proofs.PartsLemmas.{element-there}
use Rattle.xhstt_completion.proofs.Pieces.{found}
use Rattle.xhstt_shape.specs.declared.records.RawGiven.{RawGiven}

-- an optional role that is this one
role-is : (role : List ℕ) (o : Option (List ℕ)) → is_role role o ≡ true → o ≡ Some role
role-is role None h = absurd (true≢false (sym h))
role-is role (Some other) h = ap (λ x. Some x) (sym ((bytes_eq-Decides role other).0 h))

is-role : (role : List ℕ) (o : Option (List ℕ)) → o ≡ Some role → is_role role o ≡ true
is-role role o h = ap (is_role role) h ∙ (bytes_eq-Decides role role).1 refl

-- the role of a place is among the roles of the places
among-more : (role : List ℕ) (o : Option (List ℕ)) (roles : List (List ℕ)) → is_among_names role roles ≡ true
    → is_among_names role (cons_option o roles) ≡ true
among-more role None roles h = h
among-more role (Some other) roles h = or_right (bytes_eq role other) (is_among_names role roles) h

role-among : (places : List Place) (k : ℕ) (place : Place) (role : List ℕ) → slice_get places k ≡ Some place
    → place.role ≡ Some role
    → is_among_names role (filter_map (λ x. x.role) places) ≡ true
role-among [] k place role at is = cc
role-among (y ∷ ys) zero place role at is =
    let own : y.role ≡ Some role = ap (λ (x : Place). x.role) (same_Some y place at) ∙ is in
    ap (λ o. is_among_names role (cons_option o (filter_map (λ x. x.role) ys))) own
    ∙ or_left (bytes_eq role role) (is_among_names role (filter_map (λ x. x.role) ys))
    ((bytes_eq-Decides role role).1 refl)
role-among (y ∷ ys) (suc k) place role at is =
    among-more role y.role (filter_map (λ x. x.role) ys) (role-among ys k place role at is)

-- a role that stands among later ones is not the first, where they are distinct
not-first : (role : List ℕ) (o : Option (List ℕ)) (roles : List (List ℕ)) → are_distinct (cons_option o roles) ≡ true
    → is_among_names role roles ≡ true
    → (is_role role o ≡ false) × (are_distinct roles ≡ true)
not-first role None roles distinct later = (refl, distinct)
not-first role (Some other) roles distinct later = (by (bytes_eq role other) refl, parts.1)
  where
    parts : (not (is_among_names other roles) ≡ true) × (are_distinct roles ≡ true)
    parts = and_parts (not (is_among_names other roles)) (are_distinct roles) distinct

    by : (b : Bool) → bytes_eq role other ≡ b → bytes_eq role other ≡ false
    by false e = e
    by true e =
        let same : role ≡ other = (bytes_eq-Decides role other).0 e in
        let there : is_among_names other roles ≡ true = subst (λ r. is_among_names r roles ≡ true) same later in
        absurd (true≢false (sym parts.0 ∙ not_from_true (is_among_names other roles) there))

-- where roles are distinct, a place is found by its role
pub find-by-role : (places : List Place) (k : ℕ) (place : Place) (role : List ℕ)
    → are_distinct (filter_map (λ x. x.role) places) ≡ true → slice_get places k ≡ Some place → place.role ≡ Some role
    → find (λ x. is_role role x.role) places ≡ Some place
find-by-role [] k place role distinct at is = cc
find-by-role (y ∷ ys) zero place role distinct at is =
    let same = same_Some y place at in
    cond-true (is_role role y.role) (Some y) (find (λ x. is_role role x.role) ys)
    (is-role role y.role (ap (λ (x : Place). x.role) same ∙ is)) ∙ at
find-by-role (y ∷ ys) (suc k) place role distinct at is =
    let parts = not-first role y.role (filter_map (λ x. x.role) ys) distinct (role-among ys k place role at is) in
    cond-false (is_role role y.role) (Some y) (find (λ x. is_role role x.role) ys) parts.0
    ∙ find-by-role ys k place role parts.1 at is

-- a resource that is named is there
named-within : (p : Parts) (id : List ℕ) (x : ResourceId) → resource_named p id ≡ Some x → x.0 < length p.resources
named-within p id x h = by (number_of id (map (λ (r : ResourceInfo). r.id) p.resources)) refl h
  where
    by : (o : Option ℕ) → number_of id (map (λ (r : ResourceInfo). r.id) p.resources) ≡ o
        → option_map (λ n. let r : ResourceId = record { 0 = n } in r) o ≡ Some x → x.0 < length p.resources
    by None e at = absurd (none-some x at)
    by (Some n) e at =
        let r : ResourceId = record { 0 = n } in
        let there = (position-Some (λ m. bytes_eq id m) (map (λ (y : ResourceInfo). y.id) p.resources) n [] e).0 in
        let same : n ≡ x.0 = ap (λ (y : ResourceId). y.0) (same_Some r x at) in
        omega (arith, there, length-map p.resources (λ (y : ResourceInfo). y.id))

-- a resource without a cause at a place has the place's type
no-other-type : (p : Parts) (x : ResourceId) (place : Place) → x.0 < length p.resources
    → place_cause p (Some x) place ≡ None → HasType p place.rtype x
no-other-type p x place within none =
    let there = element-there p.resources x.0 within in
    let rest = unless-first (differ_in_resource place.fixed (Some x)) FIXED_RESOURCE _ none in
    let typed : has_other_type p (Some x) place ≡ false =
    (unless-first (has_other_type p (Some x) place) WRONG_TYPE None rest.1).0 in
    let kind : Option ResourceInfo → Option ℕ = option_map (λ info. info.rtype) in
    let own : not (there.value.rtype == place.rtype) ≡ false =
    sym (ap (λ o. option_map_or (λ rtype. not (rtype == place.rtype)) (kind o) false) there.found) ∙ typed in
    ap kind there.found ∙ ap (λ n. Some n) (eqb-true there.value.rtype place.rtype
    (not-false (there.value.rtype == place.rtype) own))

-- without a cause, each resource that is given has none at its place
abbrev pub SuitsItsPlace : Parts → EventInfo → RawGiven → Type 0
SuitsItsPlace p event one = (place : Place) → place_for p event one ≡ Some place
    → place_cause p (resource_of p one) place ≡ None

both-none : (o q : Option ℕ) → option_or o q ≡ None → (o ≡ None) × (q ≡ None)
both-none None q h = (refl, h)
both-none (Some x) q h = cc

pub all-suit : (p : Parts) (event : EventInfo) (before given : List RawGiven)
    → first_given_cause p event before given ≡ None → All (SuitsItsPlace p event) given
all-suit p event before [] h = All-nil (SuitsItsPlace p event)
all-suit p event before (one ∷ rest) h =
    let parts = both-none (given_cause p event before one) (first_given_cause p event (before ++ one ∷ []) rest) h in
    let chain = unless-first (is_none (place_for p event one) || came_before before one) BAD_ROLE
    (option_and_then (place_cause p (resource_of p one)) (place_for p event one)) parts.0 in
    All-cons (SuitsItsPlace p event) one rest
    (λ place at. sym (ap (option_and_then (place_cause p (resource_of p one))) at) ∙ chain.1)
    (all-suit p event (before ++ one ∷ []) rest parts.1)

-- so the resource at a place has its type
pub resource-typed : (p : Parts) (event : EventInfo) (given : List RawGiven) (k : ℕ) (place : Place) → IsEvent p event
    → slice_get event.places k ≡ Some place
    → first_given_cause p event [] given ≡ None → IfSome (resource_at p given place) (HasType p place.rtype)
resource-typed p event given k place made at none = by place.fixed refl place.role refl
  where
    own : IsPlace p place
    own = subst (IsPlace p) (get_or_from_slice_get event.places k place place at)
        (made.places k place (slice_get_within event.places k place at))

    by_resource : (one : RawGiven) → place_for p event one ≡ Some place → SuitsItsPlace p event one
        → (r : Option ResourceId) → resource_of p one ≡ r → IfSome r (HasType p place.rtype)
    by_resource one found suits None e = tt
    by_resource one found suits (Some x) e =
        no-other-type p x place (named-within p one.reference.id x e)
        (ap (λ r. place_cause p r place) (sym e) ∙ suits place found)

    by_found : (role : List ℕ) → place.role ≡ Some role → (o : Option RawGiven)
        → find (λ one. is_role role (role_of one)) given ≡ o
        → IfSome (option_and_then (resource_of p) o) (HasType p place.rtype)
    by_found role is None e = tt
    by_found role is (Some one) e =
        let facts = found (λ other. is_role role (role_of other)) (SuitsItsPlace p event) given one e
        (all-suit p event [] given none) in
        let there : place_for p event one ≡ Some place =
        ap (λ r. find (is_place_for (resource_of p one) r) event.places) (role-is role (role_of one) facts.1)
        ∙ find-by-role event.places k place role made.roles at is
        in
        by_resource one there facts.0 (resource_of p one) refl

    by : (f : Option ResourceId) → place.fixed ≡ f → (role : Option (List ℕ)) → place.role ≡ role
        → IfSome (option_or f (option_and_then (given_for p given) role)) (HasType p place.rtype)
    by (Some r) e role is = subst (λ o. IfSome o (HasType p place.rtype)) e own.fixed
    by None e None is = tt
    by None e (Some role) is = by_found role is (find (λ one. is_role role (role_of one)) given) refl
