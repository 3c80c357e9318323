-- The causes at many resources, by tables of roles.
use Rattle.std.proofs.Common.{ℕ, ◌≡◌, ◌∙◌, ◌<◌, Bool, true, false, not, ◌||◌, if◌then◌else◌, Option, Some, None}
use Rattle.std.proofs.Common.{List, [], ◌∷◌, length, map, slice_get, get_or, refl, sym, ap, arith}
use Rattle.std.proofs.Common.{position}
use Rattle.std.specs.Prelude.{IfSome, find, is_none, is_some, ◌==◌}
use Rattle.std.specs.List.{list_any}
use Rattle.std.specs.Option.{option_and_then, option_map, option_map_or}
use Rattle.std.specs.Str.{bytes_eq}
use Rattle.std.proofs.lemmas.Bool.{true≢false, and_parts, eq-eqb, eqb-true, false_from_ne_true}
use Rattle.std.proofs.lemmas.List.{length-map}
use Rattle.std.proofs.lemmas.List.Quantifiers.{position-Some}
use Rattle.std.proofs.lemmas.List.Folds.{list_any_at}
use Rattle.std.proofs.lemmas.Option.{get_or_from_slice_get, slice_get_read, slice_get_within}
use Rattle.std.proofs.lemmas.Slice.Eq.{bytes_eq-Decides}
use Rattle.khe_base.proofs.ListLemmas.{there}
use Rattle.khe_base.specs.declared.numbers.ResourceId.{ResourceId}
use Rattle.khe_instance.specs.Lookups.{is_role}
use Rattle.khe_instance.specs.Running.{is_resource}
use Rattle.khe_instance.specs.WellMade.{HasType, IsEvent, IsPlace}
use Rattle.khe_instance.specs.declared.parts.EventInfo.{EventInfo}
use Rattle.khe_instance.specs.declared.parts.Parts.{Parts}
use Rattle.khe_instance.specs.declared.parts.Place.{Place}
use Rattle.khe_instance.specs.declared.parts.ResourceInfo.{ResourceInfo}
use Rattle.xhstt_completion.specs.Causes.{is_place_for, place_cause, given_cause, differ_in_resource, has_other_type, type_of}
use Rattle.xhstt_completion.specs.Completed.{given_for}
use Rattle.xhstt_completion.specs.Entries.{resource_of, role_of}
use Rattle.xhstt_completion.specs.Tables.{is_given, wanted_role, wanted_roles, named_cause, unnamed_cause}
use Rattle.fault_tables.specs.declared.causes.TheConstants.{BAD_ROLE, FIXED_RESOURCE, WRONG_TYPE}
use Rattle.xhstt_completion.proofs.Pieces.{found}
use Rattle.xhstt_references.proofs.UnknownLemmas.{is_some_position}
use Rattle.xhstt_completion.proofs.TableLemmas.{place-map, place-same, find-place}
use Rattle.xhstt_completion.proofs.CausesLemmas.{at_place}
use Rattle.xhstt_completion.proofs.FoundLemmas.{given-taken}
use Rattle.xhstt_shape.specs.declared.records.RawGiven.{RawGiven}

-- the cause at a resource by its number and its role
abbrev cause_for : Parts → EventInfo → List RawGiven → Option ResourceId → Option (List ℕ) → Option ℕ
cause_for p event before r role =
    let place = find (is_place_for r role) event.places in
    if is_none place || option_map_or (λ name. is_given before name) role false then Some BAD_ROLE else
    option_and_then (place_cause p r) place

pub cause-named : (p : Parts) (event : EventInfo) (before : List RawGiven) (one : RawGiven) (role : List ℕ)
    (r : ResourceId)
    → role_of one ≡ Some role → resource_of p one ≡ Some r
    → named_cause p event before role (Some r) ≡ given_cause p event before one
cause-named p event before one role r named is =
    sym (λ i. cause_for p event before (is i) (named i))

pub cause-unnamed : (p : Parts) (event : EventInfo) (before : List RawGiven) (one : RawGiven) (r : ResourceId)
    → role_of one ≡ None → resource_of p one ≡ Some r
    → unnamed_cause p event (Some r) ≡ given_cause p event before one
cause-unnamed p event before one r named is = sym (λ i. cause_for p event before (is i) (named i))

-- ---- the places that are wanted

-- a role for which a resource is given is wanted wherever it stands
wanted-same : (given : List RawGiven) (role : List ℕ) → is_given given role ≡ true → (o : Option (List ℕ))
    → is_role role (wanted_role given o) ≡ is_role role o
wanted-same given role mine None = refl
wanted-same given role mine (Some other) = by (is_given given other) refl
  where
    by : (b : Bool) → is_given given other ≡ b → is_role role (if b then Some other else None) ≡ bytes_eq role other
    by true e = refl
    by false e =
        let differ : bytes_eq role other ≡ true → ⊥ =
        λ h. true≢false (sym mine ∙ ap (is_given given) ((bytes_eq-Decides role other).0 h) ∙ e) in
        sym (false_from_ne_true (bytes_eq role other) differ)

pub wanted-place : (given : List RawGiven) (places : List Place) (role : List ℕ) → is_given given role ≡ true
    → position (is_role role) (wanted_roles given places) ≡ position (λ place. is_role role place.role) places
wanted-place given places role mine =
    place-map (is_role role) (λ (place : Place). wanted_role given place.role) places
    ∙ place-same (λ (place : Place). is_role role (wanted_role given place.role)) (λ place. is_role role place.role)
    places
    (λ place. wanted-same given role mine place.role)

-- a resource that stands among those of the entry is given for its role
pub is-given : (given : List RawGiven) (i : ℕ) (one : RawGiven) (role : List ℕ) → slice_get given i ≡ Some one
    → role_of one ≡ Some role → is_given given role ≡ true
is-given given i one role at named =
    list_any_at (λ other. is_role role (role_of other)) given i one (slice_get_within given i one at)
    (ap (λ x. is_role role (role_of x)) (get_or_from_slice_get given i one one at) ∙ ap (is_role role) named
    ∙ (bytes_eq-Decides role role).1 refl)

pub wanted-below : (given : List RawGiven) (places : List Place) (role : List ℕ) (k : ℕ)
    → position (is_role role) (wanted_roles given places) ≡ Some k → k < length places
wanted-below given places role k at =
    let below = (position-Some (is_role role) (wanted_roles given places) k None at).0 in
    omega (arith, below, length-map places (λ (x : Place). wanted_role given x.role))

-- a place that is found by the first place of its role
pub place-at : (places : List Place) (role : List ℕ) (k : ℕ) (place : Place)
    → position (λ x. is_role role x.role) places ≡ Some k → place ≡ get_or places k place
    → Some place ≡ find (λ x. is_role role x.role) places
place-at places role k place at is =
    let below = (position-Some (λ (x : Place). is_role role x.role) places k place at).0 in
    sym (find-place (λ x. is_role role x.role) places ∙ ap (option_and_then (λ n. slice_get places n)) at
    ∙ slice_get_read places _ k place refl below is)

pub place-none : (places : List Place) (role : List ℕ) → position (λ x. is_role role x.role) places ≡ None
    → None ≡ find (λ x. is_role role x.role) places
place-none places role none =
    sym (find-place (λ x. is_role role x.role) places ∙ ap (option_and_then (λ n. slice_get places n)) none)

-- ---- resources without a role

is_some-find : {X : Type 0} (test : X → Bool) (xs : List X) → is_some (find test xs) ≡ list_any test xs
is_some-find test [] = refl
is_some-find {X} test (x ∷ xs) = by (test x) (is_some-find test xs)
  where
    by : (b : Bool) → is_some (find test xs) ≡ list_any test xs
        → is_some (if b then Some x else find test xs) ≡ (b || list_any test xs)
    by true rest = refl
    by false rest = rest

-- a place that has the resource as its own has its type
own-place : (p : Parts) (place : Place) (r : ResourceId) → IsPlace p place
    → is_place_for (Some r) None place ≡ true → place_cause p (Some r) place ≡ None
own-place p place r made mine = by place.fixed refl made.fixed
    (and_parts (is_none place.role) (is_resource r.0 place.fixed) mine).1
  where
    by : (f : Option ResourceId) → place.fixed ≡ f → IfSome f (HasType p place.rtype) → is_resource r.0 f ≡ true
        → place_cause p (Some r) place ≡ None
    by None e typed same = absurd (true≢false (sym same))
    by (Some x) e typed same =
        let number : x.0 ≡ r.0 = eqb-true x.0 r.0 same in
        let kind : type_of p (Some r) ≡ Some place.rtype =
        ap (λ n. option_map (λ (info : ResourceInfo). info.rtype) (slice_get p.resources n)) (sym number) ∙ typed in
        let differ : differ_in_resource place.fixed (Some r) ≡ false =
        ap (λ f. differ_in_resource f (Some r)) e ∙ ap not same in
        let other : has_other_type p (Some r) place ≡ false =
        ap (λ o. option_map_or (λ rtype. not (rtype == place.rtype)) o false) kind
        ∙ ap not (eq-eqb place.rtype place.rtype refl)
        in
        λ i. if differ i then Some FIXED_RESOURCE else if other i then Some WRONG_TYPE else None

-- so there is a cause exactly where no place has it
pub unnamed-known : (p : Parts) (event : EventInfo) (r : ResourceId) → IsEvent p event
    → unnamed_cause p event (Some r)
    ≡ (if list_any (is_place_for (Some r) None) event.places then None else Some BAD_ROLE)
unnamed-known p event r made = by (find (is_place_for (Some r) None) event.places) refl
  where
    by : (o : Option Place) → find (is_place_for (Some r) None) event.places ≡ o
        → (if is_none o || false then Some BAD_ROLE else option_and_then (place_cause p (Some r)) o)
        ≡ (if list_any (is_place_for (Some r) None) event.places then None else Some BAD_ROLE)
    by None e =
        ap (λ b. if b then None else Some BAD_ROLE) (sym (ap is_some e) ∙ is_some-find (is_place_for (Some r) None)
        event.places)
    by (Some place) e =
        let facts = found (is_place_for (Some r) None) (IsPlace p) event.places place e made.places in
        own-place p place r facts.0 facts.1
        ∙ ap (λ b. if b then None else Some BAD_ROLE) (sym (ap is_some e) ∙ is_some-find (is_place_for (Some r) None)
        event.places)

-- ---- roles that resources are given for

-- what a table answers that is asked by the spelling of a role
pub asked : (given : List RawGiven) (role spelled : List ℕ) (answer : Option ℕ) → spelled ≡ role
    → answer ≡ position (is_role spelled) (map role_of given) → answer ≡ position (is_role role) (map role_of given)
asked given role spelled answer same is = is ∙ ap (λ r. position (is_role r) (map role_of given)) same

-- a role that is found is one that a resource is given for
pub given-found : (given : List RawGiven) (role : List ℕ)
    → is_some (position (is_role role) (map role_of given)) ≡ is_given given role
given-found given role =
    ap is_some (place-map (is_role role) role_of given) ∙ is_some_position (λ one. is_role role (role_of one)) given

pub wanted-by : (given : List RawGiven) (role : List ℕ) (o : Option (List ℕ)) (b : Bool) → o ≡ Some role
    → is_given given role ≡ b → wanted_role given o ≡ (if b then Some role else None)
wanted-by given role o b named is =
    ap (wanted_role given) named ∙ ap (λ c. if c then Some role else None) is

-- a place that is found for a role has no cause but its own
pub named-place : (p : Parts) (event : EventInfo) (before : List RawGiven) (role : List ℕ) (r : Option ResourceId)
    (place : Place)
    → find (λ x. is_role role x.role) event.places ≡ Some place → is_given before role ≡ false
    → named_cause p event before role r ≡ place_cause p r place
named-place p event before role r place found fresh =
    at_place (find (λ x. is_role role x.role) event.places) (is_given before role) (place_cause p r) place found fresh

-- the resource that is given for a role, by the place where the role stands first
pub given-none : (p : Parts) (given : List RawGiven) (role : List ℕ)
    → position (is_role role) (map role_of given) ≡ None → given_for p given role ≡ None
given-none p given role none =
    let test : RawGiven → Bool = λ one. is_role role (role_of one) in
    ap (option_and_then (resource_of p)) (find-place test given
    ∙ ap (option_and_then (λ k. slice_get given k)) (sym (place-map (is_role role) role_of given) ∙ none))

pub place-below : (given : List RawGiven) (role : List ℕ) (k : ℕ)
    → position (is_role role) (map role_of given) ≡ Some k → k < length given
place-below given role k at =
    let below = (position-Some (is_role role) (map role_of given) k None at).0 in
    omega (arith, below, length-map given role_of)

pub given-at : (p : Parts) (given : List RawGiven) (resources : List ResourceId) (role : List ℕ) (k : ℕ)
    (d : ResourceId)
    → map (resource_of p) given ≡ map Some resources → position (is_role role) (map role_of given) ≡ Some k
    → given_for p given role ≡ Some (get_or resources k d)
given-at p given resources role k d is at =
    let test : RawGiven → Bool = λ one. is_role role (role_of one) in
    let below : k < length given = place-below given role k at in
    let one = there given k below in
    let same : one.value ≡ get_or given k one.value =
    sym (get_or_from_slice_get given k one.value one.value one.found) in
    ap (option_and_then (resource_of p)) (find-place test given
    ∙ ap (option_and_then (λ n. slice_get given n)) (sym (place-map (is_role role) role_of given) ∙ at) ∙ one.found)
    ∙ given-taken p given resources k one.value d is below same
