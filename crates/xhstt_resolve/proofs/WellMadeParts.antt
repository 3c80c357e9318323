-- Resources, groups, first meet slots and the unit of parts.
use Rattle.std.proofs.Common.{ℕ, ◌≡◌, ◌+◌, ◌<◌, suc, Some, List, [], ◌∷◌, length, map, refl, sym, ap, subst, ◌∙◌, arith}
use Rattle.std.proofs.Common.{All, slice_get, option_map, get_or}
use Rattle.std.specs.Prelude.{unwrap_or}
use Rattle.std.specs.Option.{option_map_or}
use Rattle.std.proofs.lemmas.List.{length-map}
use Rattle.std.proofs.lemmas.List.Elements.{All-map, All-weaker}
use Rattle.std.proofs.lemmas.Option.{slice_get-map}
use Rattle.khe_base.proofs.ListLemmas.{there, all-there, none_of}
use Rattle.khe_base.specs.Units.{IsUnit}
use Rattle.khe_instance.specs.Kinds.{kind_of}
use Rattle.khe_instance.specs.WellMade.{AreFirstMeets}
use Rattle.khe_instance.specs.declared.parts.EventInfo.{EventInfo}
use Rattle.khe_instance.specs.declared.parts.GroupInfo.{GroupInfo}
use Rattle.khe_instance.specs.declared.parts.ResourceInfo.{ResourceInfo}
use Rattle.khe_instance.specs.declared.points.Monitor.{Monitor}
use Rattle.khe_instance.specs.declared.points.Point.{Point}
use Rattle.xhstt_references.specs.Ids.{resource_type_ids, event_ids}
use Rattle.xhstt_references.specs.References.{unknown, unknown_in_resource}
use Rattle.xhstt_resolve.specs.Members.{events_in}
use Rattle.xhstt_resolve.specs.Parts.{type_named, type_at, resource_of, group_of, events_from}
use Rattle.xhstt_resolve.specs.Points.{monitor_of}
use Rattle.xhstt_resolve.specs.Rules.{event_named, rule_of}
use Rattle.xhstt_resolve.specs.Units.{unit_of}
use Rattle.xhstt_shape.specs.WellFormed as shape
use Rattle.xhstt_resolve.proofs.WellMadeFaults.{IsFaultless}
use Rattle.xhstt_resolve.proofs.WellMadeLists.{known, among, length-set_of}
use Rattle.xhstt_resolve.proofs.WellMadeUnits.{unit_is}
use Rattle.xhstt_shape.specs.declared.constraints.RawConstraint.{RawConstraint}
use Rattle.xhstt_shape.specs.declared.records.EventGroup.{EventGroup}
use Rattle.xhstt_shape.specs.declared.records.RawEvent.{RawEvent}
use Rattle.xhstt_shape.specs.declared.records.RawInstance.{RawInstance}
use Rattle.xhstt_shape.specs.declared.records.RawResource.{RawResource}
use Rattle.xhstt_shape.specs.declared.records.Ref.{Ref}
use Rattle.xhstt_references.specs.Directories.{directory_of}

-- the monitor of the constraint with a number at a point
abbrev pub monitor_at : RawInstance → ℕ → RawConstraint → Point → Monitor
monitor_at i k c p = monitor_of (kind_of (rule_of i c.applies c.rule)) k p

-- a type that is known has a number below the number of types
pub type_known : (i : RawInstance) (r : Ref) → unknown (resource_type_ids i) (r ∷ []) ≡ []
    → type_named i r < length i.resource_types
type_known i r none =
    let k = known r.id (resource_type_ids i) (among (resource_type_ids i) r [] none).0 in
    let e : type_named i r ≡ k.n = ap (λ o. unwrap_or o 0) k.is in
    omega (arith, e, k.within, length-map i.resource_types (λ t. t.id.text))

resource_typed : (i : RawInstance) (r : RawResource) → unknown_in_resource (directory_of i) r ≡ []
    → type_named i r.resource_type < length i.resource_types
resource_typed i r none = type_known i r.resource_type
    (none_of (unknown (resource_type_ids i) (r.resource_type ∷ [])) _ none).0

pub resources_made : (i : RawInstance) → IsFaultless i
    → All (λ (r : ResourceInfo). r.rtype < length i.resource_types) (map (resource_of i) i.resources)
resources_made i sound =
    All-map (λ (r : ResourceInfo). r.rtype < length i.resource_types) (resource_of i) i.resources
    (All-weaker (λ r. unknown_in_resource (directory_of i) r ≡ [])
    (λ r. type_named i r.resource_type < length i.resource_types) (resource_typed i) i.resources sound.in_resources)

-- the type of a resource by its number
pub type_at-within : (i : RawInstance) (n : ℕ) → IsFaultless i → n < length i.resources
    → type_at i n < length i.resource_types
type_at-within i n sound l =
    let r = there i.resources n l in
    let e : type_at i n ≡ type_named i r.value.resource_type =
    ap (λ o. option_map_or (λ (x : RawResource). type_named i x.resource_type) o 0) r.found in
    let typed = resource_typed i r.value (all-there (λ x. unknown_in_resource (directory_of i) x ≡ []) i.resources n
    r.value sound.in_resources r.found) in
    subst (λ t. t < length i.resource_types) (sym e) typed

pub type_at-has : (i : RawInstance) (n : ℕ) → n < length i.resources
    → option_map (λ (x : ResourceInfo). x.rtype) (slice_get (map (resource_of i) i.resources) n) ≡ Some (type_at i n)
type_at-has i n l =
    let r = there i.resources n l in
    ap (option_map (λ (x : ResourceInfo). x.rtype))
    (slice_get-map (resource_of i) i.resources n ∙ ap (option_map (resource_of i)) r.found)
    ∙ sym (ap (λ o. Some (option_map_or (λ (x : RawResource). type_named i x.resource_type) o 0)) r.found)

-- each event is a part
pub length-events : (i : RawInstance) (next : ℕ) (es : List RawEvent) → length (events_from i next es) ≡ length es
length-events i next [] = refl
length-events i next (e ∷ es) = ap suc (length-events i (next + e.duration) es)

-- an event that is known has a number below the number of events
pub event_known : (i : RawInstance) (r : Ref) → unknown (event_ids i) (r ∷ []) ≡ []
    → (event_named i r).0 < length (events_from i 0 i.events)
event_known i r none =
    let k = known r.id (event_ids i) (among (event_ids i) r [] none).0 in
    let e : (event_named i r).0 ≡ k.n = ap (λ o. unwrap_or o 0) k.is in
    omega (arith, e, k.within, length-map i.events (λ x. x.id.text), length-events i 0 i.events)

group_sized : (i : RawInstance) (g : EventGroup) → length (group_of i g).events ≡ length (events_from i 0 i.events)
group_sized i g = length-set_of (length i.events) (events_in i g.id.text) ∙ sym (length-events i 0 i.events)

pub groups_made : (i : RawInstance) → All (λ (g : GroupInfo). length g.events ≡ length (events_from i 0 i.events))
    (map (group_of i) i.event_groups)
groups_made i =
    All-map (λ (g : GroupInfo). length g.events ≡ length (events_from i 0 i.events)) (group_of i) i.event_groups
    (λ k d l. group_sized i (get_or i.event_groups k d))

pub first_meets_made : (i : RawInstance) (next : ℕ) (es : List RawEvent) → AreFirstMeets next (events_from i next es)
first_meets_made i next [] = tt
first_meets_made i next (e ∷ es) = (refl, first_meets_made i (next + e.duration) es)

pub durations : (i : RawInstance) (next : ℕ) (es : List RawEvent)
    → map (λ e. e.duration) (events_from i next es) ≡ map (λ e. e.duration) es
durations i next [] = refl
durations i next (e ∷ es) = ap (λ ds. e.duration ∷ ds) (durations i (next + e.duration) es)

pub unit_made : (i : RawInstance) → shape.IsInstance i
    → IsUnit (map (λ (e : EventInfo). e.duration) (events_from i 0 i.events)) (unit_of (map (λ e. e.duration) i.events))
unit_made i formed =
    subst (λ ds. IsUnit ds (unit_of (map (λ e. e.duration) i.events))) (sym (durations i 0 i.events))
    (unit_is (map (λ e. e.duration) i.events)
    (All-map (λ d. 0 < d) (λ (e : RawEvent). e.duration) i.events
    (All-weaker shape.IsEvent (λ e. 0 < e.duration) (λ e f. omega (arith, f.duration.0)) i.events formed.events)))
