-- The events of parts, their places and roles.
use Rattle.std.proofs.Common.{ℕ, ◌≡◌, ◌+◌, ◌<◌, ◌≤◌, Bool, true, false, if◌then◌else◌, ◌⊎◌, inl, inr, Option, Some}
use Rattle.std.proofs.Common.{None, IsSome, IfSome, is_some, List, [], ◌∷◌, ◌++◌, length, map, refl, sym, ap, subst}
use Rattle.std.proofs.Common.{◌∙◌, arith, All, option_map, flat_map, nat_lt}
use Rattle.std.specs.Prelude.{unwrap_or}
use Rattle.std.specs.List.{filter_map, cons_option}
use Rattle.std.specs.Option.{option_map_or}
use Rattle.std.proofs.lemmas.Bool.{ltb-false}
use Rattle.std.proofs.lemmas.List.{length-map, append-nil}
use Rattle.std.proofs.lemmas.List.Concat.{flat_map-cons}
use Rattle.std.proofs.lemmas.List.Elements.{All-nil, All-cons, All-head, All-tail, All-map, All-append, All-weaker}
use Rattle.std.proofs.lemmas.List.Elements.{filter_map-append}
use Rattle.khe_base.proofs.ListLemmas.{none_of, none-each}
use Rattle.khe_base.specs.Names.{are_distinct, number_of}
use Rattle.khe_base.specs.declared.limits.TheConstants.{NUMBER}
use Rattle.khe_base.specs.declared.numbers.ResourceId.{ResourceId}
use Rattle.khe_base.specs.declared.numbers.TimeId.{TimeId}
use Rattle.khe_instance.specs.WellMade.{HasType, IsEvent, IsPlace}
use Rattle.khe_instance.specs.declared.parts.Place.{Place}
use Rattle.xhstt_references.specs.Ids.{course_ids, time_ids, resource_ids, resource_type_ids, resource_group_ids}
use Rattle.xhstt_references.specs.References.{off_end, off_end_from, repeated, roles_of, unknown, unknown_one}
use Rattle.xhstt_references.specs.References.{unknown_in_event, unknown_in_place}
use Rattle.xhstt_resolve.specs.Members.{groups_of_resource, resources_in}
use Rattle.xhstt_resolve.specs.Parts.{event_of, events_from, fixed_resource, fixed_time, group_places, member_place}
use Rattle.xhstt_resolve.specs.Parts.{parts_of, place_of, place_type, places_of, role_text, type_at, workload_of}
use Rattle.xhstt_shape.specs.WellFormed as shape
use Rattle.xhstt_resolve.proofs.WellMadeFaults.{IsFaultless}
use Rattle.xhstt_resolve.proofs.WellMadeIds.{distinct_names}
use Rattle.xhstt_resolve.proofs.WellMadeLists.{IsKnown, among, known, members_in-within, All-flat_map}
use Rattle.xhstt_resolve.proofs.WellMadeParts.{type_at-has, type_at-within, type_known}
use Rattle.xhstt_shape.specs.declared.records.Name.{Name}
use Rattle.xhstt_shape.specs.declared.records.RawEvent.{RawEvent}
use Rattle.xhstt_shape.specs.declared.records.RawEventResource.{RawEventResource}
use Rattle.xhstt_shape.specs.declared.records.RawInstance.{RawInstance}
use Rattle.xhstt_shape.specs.declared.records.Ref.{Ref}
use Rattle.xhstt_references.specs.Directories.{directory_of}
use Rattle.khe_base.proofs.ResultLemmas.{some-mapped}

-- an event that has a time and is not off the end ends in time
ends_in_time : (i : RawInstance) (duration : ℕ) (o : Option Ref)
    → option_map_or (off_end_from (directory_of i) duration) o [] ≡ []
    → IfSome (fixed_time i o) (λ t. t.0 + duration ≤ length (time_ids i))
ends_in_time i duration None h = tt
ends_in_time i duration (Some r) h = by (number_of r.id (time_ids i)) h
  where
    in_time : (t : ℕ) (b : Bool) → nat_lt (length (time_ids i)) (t + duration) ≡ b → (if b then r.at ∷ [] else []) ≡ []
        → t + duration ≤ length (time_ids i)
    in_time t true is h = absurd (let g : ⊥ = cc in g)
    in_time t false is h = ltb-false _ _ is

    by : (n : Option ℕ) → option_map_or (λ t. if nat_lt (length (time_ids i)) (t + duration) then r.at ∷ [] else []) n
        [] ≡ []
        → IfSome (option_map (λ t. let x : TimeId = record { 0 = t } in x) n)
        (λ t. t.0 + duration ≤ length (time_ids i))
    by None h = tt
    by (Some t) h = in_time t (nat_lt (length (time_ids i)) (t + duration)) refl h

-- a resource that is known
resource_known : (i : RawInstance) (r : Ref) → unknown (resource_ids i) (r ∷ []) ≡ [] → IsKnown r.id (resource_ids i)
resource_known i r none = known r.id (resource_ids i) (among (resource_ids i) r [] none).0

below_resources : (i : RawInstance) (n : ℕ) → n < length (resource_ids i) → n < length i.resources
below_resources i n l = omega (arith, length-map i.resources (λ x. x.id.text))

place_typed : (i : RawInstance) (o wanted : Option Ref) → IsFaultless i → unknown_one (resource_ids i) o ≡ []
    → unknown_one (resource_type_ids i) wanted ≡ [] → IsSome o ⊎ IsSome wanted
    → place_type i o wanted < length i.resource_types
place_typed i (Some r) wanted sound one two given =
    let k = resource_known i r one in
    subst (λ n. option_map_or (type_at i) n 0 < length i.resource_types) (sym k.is)
    (type_at-within i k.n sound (below_resources i k.n k.within))
place_typed i None (Some t) sound one two given = type_known i t two
place_typed i None None sound one two (inl h) = absurd (let g : ⊥ = cc in g)
place_typed i None None sound one two (inr h) = absurd (let g : ⊥ = cc in g)

place_fixed : (i : RawInstance) (o wanted : Option Ref) → unknown_one (resource_ids i) o ≡ []
    → IfSome (fixed_resource i o) (HasType (parts_of i) (place_type i o wanted))
place_fixed i None wanted one = tt
place_fixed i (Some r) wanted one =
    let k = resource_known i r one in
    subst (λ n. IfSome (option_map (λ m. let x : ResourceId = record { 0 = m } in x) n)
    (HasType (parts_of i) (option_map_or (type_at i) n 0))) (sym k.is)
    (type_at-has i k.n (below_resources i k.n k.within))

fixed_there : (i : RawInstance) (o : Option Ref) → unknown_one (resource_ids i) o ≡ [] → IsSome o
    → IsSome (fixed_resource i o)
fixed_there i None one e = absurd (let g : ⊥ = cc in g)
fixed_there i (Some r) one e = some-mapped (λ n. let x : ResourceId = record { 0 = n } in x)
    (number_of r.id (resource_ids i)) (ap is_some (resource_known i r one).is)

place_wanted : (i : RawInstance) (o : Option Ref) (role : Option Name) → unknown_one (resource_ids i) o ≡ []
    → IsSome o ⊎ IsSome role → IsSome (role_text role) ⊎ IsSome (fixed_resource i o)
place_wanted i o role one (inl h) = inr (fixed_there i o one h)
place_wanted i o role one (inr h) = inl (some-mapped (λ n. n.text) role h)

within_number : (o : Option ℕ) (d : ℕ) → IfSome o (λ w. w ≤ NUMBER) → d ≤ NUMBER → unwrap_or o d ≤ NUMBER
within_number None d h l = l
within_number (Some w) d h l = h

workload_within : (e : RawEvent) → shape.IsEvent e → workload_of e ≤ NUMBER
workload_within e form = within_number e.workload e.duration form.workload form.duration.1

-- there is a reference, or what there must be without one
referred : (B : Type 0) (o : Option Ref) → (o ≡ None → B) → IsSome o ⊎ B
referred B None f = inr (f refl)
referred B (Some r) f = inl refl

place_made : (i : RawInstance) (e : RawEvent) (r : RawEventResource) → IsFaultless i → shape.IsEvent e → shape.IsEventResource r
    → unknown_in_place (directory_of i) r ≡ [] → IsPlace (parts_of i) (place_of i e r)
place_made i e r sound form own none =
    let parts = none_of (unknown_one (resource_ids i) r.reference) (unknown_one (resource_type_ids i) r.resource_type)
    none in
    record {
      typed = place_typed i r.reference r.resource_type sound parts.0 parts.1 (referred (IsSome r.resource_type) r.reference (λ none. (own.closed none).1));
      fixed = place_fixed i r.reference r.resource_type parts.0;
      wanted = place_wanted i r.reference r.role parts.0 (referred (IsSome r.role) r.reference (λ none. (own.closed none).0));
      workload = within_number r.workload (workload_of e) own.workload (workload_within e form);
    }

member_made : (i : RawInstance) (e : RawEvent) (n : ℕ) → IsFaultless i → shape.IsEvent e → n < length i.resources
    → IsPlace (parts_of i) (member_place i e n)
member_made i e n sound form l = record {
  typed = type_at-within i n sound l;
  fixed = type_at-has i n l;
  wanted = inr refl;
  workload = workload_within e form;
}

places_made : (i : RawInstance) (e : RawEvent) → IsFaultless i → shape.IsEvent e
    → flat_map (unknown_in_place (directory_of i)) e.resources ≡ [] → All (IsPlace (parts_of i)) (places_of i e)
places_made i e sound form none =
    let each = none-each (unknown_in_place (directory_of i)) e.resources none in
    All-append (IsPlace (parts_of i)) (map (place_of i e) e.resources) (flat_map (group_places i e) e.resource_groups)
    (All-map (IsPlace (parts_of i)) (place_of i e) e.resources
    (λ k d l. place_made i e _ sound form (form.resources k d l) (each k d l)))
    (All-flat_map (IsPlace (parts_of i)) (group_places i e) e.resource_groups
    (λ g. All-map (IsPlace (parts_of i)) (member_place i e) (resources_in i g.id)
    (All-weaker (λ n. n < length i.resources) (λ n. IsPlace (parts_of i) (member_place i e n))
    (λ n l. member_made i e n sound form l) (resources_in i g.id)
    (members_in-within (resource_group_ids i) groups_of_resource i.resources g.id))))

-- the roles of places are those of the listed event resources
abbrev role_in : Place → Option (List ℕ)
role_in p = p.role

listed_roles : (i : RawInstance) (e : RawEvent) (rs : List RawEventResource)
    → filter_map role_in (map (place_of i e) rs) ≡ map (λ n. n.text) (filter_map (λ r. r.role) rs)
listed_roles i e [] = refl
listed_roles i e (r ∷ rs) = by r.role (listed_roles i e rs)
  where
    by : (o : Option Name) → filter_map role_in (map (place_of i e) rs)
        ≡ map (λ n. n.text) (filter_map (λ r. r.role) rs)
        → cons_option (role_text o) (filter_map role_in (map (place_of i e) rs))
        ≡ map (λ n. n.text) (cons_option o (filter_map (λ r. r.role) rs))
    by None same = same
    by (Some n) same = ap (λ xs. n.text ∷ xs) same

member_roles : (i : RawInstance) (e : RawEvent) (ns : List ℕ) → filter_map role_in (map (member_place i e) ns) ≡ []
member_roles i e [] = refl
member_roles i e (n ∷ ns) = member_roles i e ns

group_roles : (i : RawInstance) (e : RawEvent) (gs : List Ref)
    → filter_map role_in (flat_map (group_places i e) gs) ≡ []
group_roles i e [] = refl
group_roles i e (g ∷ gs) =
    ap (filter_map role_in) (flat_map-cons (group_places i e) g gs)
    ∙ filter_map-append role_in (group_places i e g) (flat_map (group_places i e) gs)
    ∙ (λ j. member_roles i e (resources_in i g.id) j ++ group_roles i e gs j)

place_roles : (i : RawInstance) (e : RawEvent) → filter_map role_in (places_of i e) ≡ map (λ n. n.text) (roles_of e)
place_roles i e =
    filter_map-append role_in (map (place_of i e) e.resources) (flat_map (group_places i e) e.resource_groups)
    ∙ (λ j. listed_roles i e e.resources j ++ group_roles i e e.resource_groups j)
    ∙ append-nil (map (λ n. n.text) (roles_of e))

-- what an event without a fault has
record IsSound (i : RawInstance) (e : RawEvent) : Type 0 where
  form : shape.IsEvent e
  known : unknown_in_event (directory_of i) e ≡ []
  roles : repeated (roles_of e) ≡ []
  ends : off_end (directory_of i) e ≡ []

event_made : (i : RawInstance) (next : ℕ) (e : RawEvent) → IsFaultless i → IsSound i e
    → IsEvent (parts_of i) (event_of i next e)
event_made i next e sound own =
    let course = none_of (unknown_one (course_ids i) e.course) _ own.known in
    let time = none_of (unknown_one (time_ids i) e.time) _ course.1 in
    let places = none_of (flat_map (unknown_in_place (directory_of i)) e.resources) _ time.1 in
    record {
      duration = own.form.duration;
      fixed = ends_in_time i e.duration e.time own.ends;
      places = places_made i e sound own.form places.0;
      roles = ap are_distinct (place_roles i e) ∙ distinct_names (roles_of e) own.roles;
    }

each_made : (i : RawInstance) (next : ℕ) (es : List RawEvent) → IsFaultless i → All (IsSound i) es
    → All (IsEvent (parts_of i)) (events_from i next es)
each_made i next [] sound all = All-nil (IsEvent (parts_of i))
each_made i next (e ∷ es) sound all =
    All-cons (IsEvent (parts_of i)) (event_of i next e) (events_from i (next + e.duration) es)
    (event_made i next e sound (All-head (IsSound i) e es all))
    (each_made i (next + e.duration) es sound (All-tail (IsSound i) e es all))

pub events_made : (i : RawInstance) → IsFaultless i → shape.IsInstance i
    → All (IsEvent (parts_of i)) (events_from i 0 i.events)
events_made i sound formed =
    each_made i 0 i.events sound (λ k d l. record {
      form = formed.events k d l;
      known = sound.in_events k d l;
      roles = sound.roles k d l;
      ends =
          sound.ends k d l;
    })
