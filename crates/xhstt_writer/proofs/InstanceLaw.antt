-- Instances, read back.
use Rattle.std.proofs.Common.{◌≡◌, ℕ, true, Option, Some, None, List, [], map, All, IfSome, refl, ap, ◌∙◌}
use Rattle.std.specs.List.{filter_map}
use Rattle.std.specs.Option.{option_map}
use Rattle.xhstt_text.specs.Forest.{Forest}
use Rattle.xhstt_text.specs.Handles.{Standing}
use Rattle.xhstt_shape.specs.declared.constraints.RawConstraint.{RawConstraint}
use Rattle.xhstt_shape.specs.declared.records.EventGroup.{EventGroup}
use Rattle.xhstt_shape.specs.declared.records.GroupSort.{GroupSort}
use Rattle.xhstt_shape.specs.declared.records.GroupSort.TheVariants as group_sort
use Rattle.xhstt_shape.specs.declared.records.MetaData.{MetaData}
use Rattle.xhstt_shape.specs.declared.records.Name.{Name}
use Rattle.xhstt_shape.specs.declared.records.RawEvent.{RawEvent}
use Rattle.xhstt_shape.specs.declared.records.RawInstance.{RawInstance}
use Rattle.xhstt_shape.specs.declared.records.RawResource.{RawResource}
use Rattle.xhstt_shape.specs.declared.records.Ref.{Ref}
use Rattle.xhstt_shape.specs.declared.records.ResourceGroup.{ResourceGroup}
use Rattle.xhstt_shape.specs.declared.records.ResourceType.{ResourceType}
use Rattle.xhstt_shape.specs.declared.records.Time.{Time}
use Rattle.xhstt_shape.specs.declared.records.TimeGroup.{TimeGroup}
use Rattle.xhstt_shape.specs.declared.records.TimeSort.{TimeSort}
use Rattle.xhstt_shape.specs.declared.records.TimeSort.TheVariants as time_sort
use Rattle.xhstt_shape.specs.declared.words.Tag.{Tag}
use Rattle.xhstt_shape.specs.declared.words.Tag.TheVariants as tag
use Rattle.xhstt_shape.specs.Characters.{IsSpellable, IsSpellableRef, IsSpellableMetaData, IsSpellableTimeGroup}
use Rattle.xhstt_shape.specs.Characters.{IsSpellableTime, IsSpellableResourceType, IsSpellableResourceGroup}
use Rattle.xhstt_shape.specs.Characters.{IsSpellableResource, IsSpellableEventGroup, IsSpellableEventResource}
use Rattle.xhstt_shape.specs.Characters.{IsSpellableEvent, IsSpellableConstraint, IsSpellableInstance}
use Rattle.xhstt_shape.specs.WellFormed.{IsEventResource, IsEvent, IsConstraint, IsInstance}
use Rattle.xhstt_shape.specs.Places as place
use Rattle.xhstt_shape.specs.Values as value
use Rattle.xhstt_shape.specs.Walk.{child}
use Rattle.xhstt_shape.specs.Words.{word}
use Rattle.xhstt_writer.specs.Standing.{Stands}
use Rattle.xhstt_writer.specs.Parts.{reference, each, around, bodies_if, row}
use Rattle.xhstt_writer.specs.Canonical.{meta_data, event, constraint_tag, constraint}
use Rattle.xhstt_writer.specs.Archives.{named_parts, named, time_sort_tag, time_group_tag, time_group, time_parts, time}
use Rattle.xhstt_writer.specs.Archives.{times_parts, resource_type, resource_group_parts, resource_group}
use Rattle.xhstt_writer.specs.Archives.{resource_parts, resource, resources_parts, group_sort_tag, event_group_tag}
use Rattle.xhstt_writer.specs.Archives.{event_group, events_parts, instance_parts, instance}
use Rattle.xhstt_writer.specs.Lookups.{StandsAs, bodies_of, are_apart, IsFirst}
use Rattle.xhstt_writer.proofs.Found.{child-found, named-found, around-stands, list-read, all_kept, many-read}
use Rattle.xhstt_writer.proofs.Found.{optional-read}
use Rattle.xhstt_writer.proofs.Fields.{name-text, reference-read, id-read}
use Rattle.xhstt_writer.proofs.ListLemmas.{All-both}
use Rattle.xhstt_writer.proofs.MetaDataLaw.{meta_data-read}
use Rattle.xhstt_writer.proofs.EventLaw.{IsGoodEventResource, event-read}
use Rattle.xhstt_writer.proofs.ConstraintLaw.{the_reference-read, references-read, constraint-read}

-- an element with an Id and a name

named_apart : (v : List ℕ) → are_apart (named_parts v) ≡ true
unfolding word
named_apart v = refl

named-name : (t : Tag) (id : Name) (v : List ℕ) (e : Standing) → IsSpellable v → StandsAs t (named id v) e
    → value.name e ≡ v
unfolding value.name word
named-name t id v e s h = name-text tag.Name v _ s (child-found tag.Name (named_parts v) (named_apart v) e.kids h.1)

-- a reference that may be missing
reference_if : (t : Tag) (r : Option Ref) (found : Option Standing) → IfSome r IsSpellableRef
    → IsFirst t (bodies_if reference r) found → option_map place.reference (option_map value.reference found)
    ≡ option_map place.reference r
reference_if t r found s h = optional-read t reference value.reference place.reference place.reference IsSpellableRef
    (λ n d g k. reference-read t n d g k) r found s h

-- times and their groups

time_sort-read : (s : TimeSort) → value.time_sort_of (word (time_sort_tag s)) ≡ s
unfolding value.time_sort_of word
time_sort-read time_sort.Week = refl
time_sort-read time_sort.Day = refl
time_sort-read time_sort.Group = refl

time_group-read : (g : TimeGroup) (e : Standing) → IsSpellableTimeGroup g → StandsAs (time_group_tag g) (time_group g) e
    → place.time_group (value.time_group e) ≡ place.time_group g
unfolding value.time_group
time_group-read g e s h =
    let sort = ap value.time_sort_of h.0.name ∙ time_sort-read g.sort in
    let id = id-read g.id [] e s.0 h.0.attributes in
    let name = named-name (time_group_tag g) g.id g.name e s.1 h in
    λ i. record { sort = sort i; id = id i; name = name i }

time_apart : (x : Time) → are_apart (time_parts x) ≡ true
unfolding word
time_apart x = refl

time-read : (t : Tag) (x : Time) (e : Standing) → IsSpellableTime x → StandsAs t (time x) e
    → place.time (value.time e) ≡ place.time x
unfolding value.time value.name value.every word
time-read t x e s h =
    let found : (u : Tag) → IsFirst u (bodies_of u (time_parts x)) (child u e.kids) =
    λ u. child-found u (time_parts x) (time_apart x) e.kids h.1 in
    let id = id-read x.id [] e s.id h.0.attributes in
    let name = name-text tag.Name x.name _ s.name (found tag.Name) in
    let week = reference_if tag.Week x.week _ s.week (found tag.Week) in
    let day = reference_if tag.Day x.day _ s.day (found tag.Day) in
    let groups = references-read tag.TimeGroups tag.TimeGroup x.time_groups _ s.time_groups (found tag.TimeGroups) in
    λ i. record { id = id i; name = name i; week = week i; day = day i; time_groups = groups i }

times_apart : (x : RawInstance) → are_apart (times_parts x) ≡ true
unfolding word
times_apart x = refl

time_groups-read : (x : RawInstance) (k : Forest) → All IsSpellableTimeGroup x.time_groups
    → Stands (row (times_parts x)) k
    → map place.time_group (map value.time_group (value.elements (value.kids_of (child tag.TimeGroups k))))
    ≡ map place.time_group x.time_groups
unfolding word
time_groups-read x k s h =
    list-read tag.TimeGroups time_group_tag time_group value.time_group place.time_group place.time_group
    IsSpellableTimeGroup (λ g e p q. time_group-read g e p q) x.time_groups (child tag.TimeGroups k) s
    (child-found tag.TimeGroups (times_parts x) (times_apart x) k h)

times-read : (x : RawInstance) (k : Forest) → All IsSpellableTime x.times → Stands (row (times_parts x)) k
    → map place.time (map value.time (value.named tag.Time k)) ≡ map place.time x.times
unfolding word
times-read x k s h =
    many-read tag.Time time value.time place.time place.time IsSpellableTime (λ g e p q. time-read tag.Time g e p q)
    x.times (value.named tag.Time k) s (named-found tag.Time (times_parts x) (times_apart x) k h)

-- resources, their types and their groups

resource_type-read : (t : Tag) (x : ResourceType) (e : Standing) → IsSpellableResourceType x
    → StandsAs t (resource_type x) e → place.resource_type (value.resource_type e) ≡ place.resource_type x
unfolding value.resource_type
resource_type-read t x e s h =
    let id = id-read x.id [] e s.0 h.0.attributes in
    let name = named-name t x.id x.name e s.1 h in
    λ i. record { id = id i; name = name i }

resource_group_apart : (x : ResourceGroup) → are_apart (resource_group_parts x) ≡ true
unfolding word
resource_group_apart x = refl

resource_group-read : (t : Tag) (x : ResourceGroup) (e : Standing) → IsSpellableResourceGroup x
    → StandsAs t (resource_group x) e → place.resource_group (value.resource_group e) ≡ place.resource_group x
unfolding value.resource_group value.name word
resource_group-read t x e s h =
    let found : (u : Tag) → IsFirst u (bodies_of u (resource_group_parts x)) (child u e.kids) =
    λ u. child-found u (resource_group_parts x) (resource_group_apart x) e.kids h.1 in
    let id = id-read x.id [] e s.0 h.0.attributes in
    let name = name-text tag.Name x.name _ s.1 (found tag.Name) in
    let type_of = the_reference-read tag.ResourceType x.resource_type e s.2 (found tag.ResourceType) in
    λ i. record { id = id i; name = name i; resource_type = type_of i }

resource_apart : (x : RawResource) → are_apart (resource_parts x) ≡ true
unfolding word
resource_apart x = refl

resource-read : (t : Tag) (x : RawResource) (e : Standing) → IsSpellableResource x → StandsAs t (resource x) e
    → place.resource (value.resource e) ≡ place.resource x
unfolding value.resource value.name value.every word
resource-read t x e s h =
    let found : (u : Tag) → IsFirst u (bodies_of u (resource_parts x)) (child u e.kids) =
    λ u. child-found u (resource_parts x) (resource_apart x) e.kids h.1 in
    let id = id-read x.id [] e s.id h.0.attributes in
    let name = name-text tag.Name x.name _ s.name (found tag.Name) in
    let type_of = the_reference-read tag.ResourceType x.resource_type e s.resource_type (found tag.ResourceType) in
    let groups = references-read tag.ResourceGroups tag.ResourceGroup x.resource_groups _ s.resource_groups
    (found tag.ResourceGroups) in
    λ i. record { id = id i; name = name i; resource_type = type_of i; resource_groups = groups i }

resources_apart : (x : RawInstance) → are_apart (resources_parts x) ≡ true
unfolding word
resources_apart x = refl

resource_types-read : (x : RawInstance) (k : Forest) → All IsSpellableResourceType x.resource_types
    → Stands (row (resources_parts x)) k
    → map place.resource_type (map value.resource_type (value.elements (value.kids_of (child tag.ResourceTypes k))))
    ≡ map place.resource_type x.resource_types
unfolding word
resource_types-read x k s h =
    list-read tag.ResourceTypes (λ _. tag.ResourceType) resource_type value.resource_type place.resource_type
    place.resource_type IsSpellableResourceType (λ g e p q. resource_type-read tag.ResourceType g e p q)
    x.resource_types (child tag.ResourceTypes k) s
    (child-found tag.ResourceTypes (resources_parts x) (resources_apart x) k h)

resource_groups-read : (x : RawInstance) (k : Forest) → All IsSpellableResourceGroup x.resource_groups
    → Stands (row (resources_parts x)) k
    → map place.resource_group (map value.resource_group (value.elements (value.kids_of (child tag.ResourceGroups k))))
    ≡ map place.resource_group x.resource_groups
unfolding word
resource_groups-read x k s h =
    list-read tag.ResourceGroups (λ _. tag.ResourceGroup) resource_group value.resource_group place.resource_group
    place.resource_group IsSpellableResourceGroup (λ g e p q. resource_group-read tag.ResourceGroup g e p q)
    x.resource_groups (child tag.ResourceGroups k) s
    (child-found tag.ResourceGroups (resources_parts x) (resources_apart x) k h)

resources-read : (x : RawInstance) (k : Forest) → All IsSpellableResource x.resources
    → Stands (row (resources_parts x)) k → map place.resource (map value.resource (value.named tag.Resource k))
    ≡ map place.resource x.resources
unfolding word
resources-read x k s h =
    many-read tag.Resource resource value.resource place.resource place.resource IsSpellableResource
    (λ g e p q. resource-read tag.Resource g e p q) x.resources (value.named tag.Resource k) s
    (named-found tag.Resource (resources_parts x) (resources_apart x) k h)

-- events and their groups

group_sort-read : (s : GroupSort) → value.group_sort_of (word (group_sort_tag s)) ≡ s
unfolding value.group_sort_of word
group_sort-read group_sort.Course = refl
group_sort-read group_sort.Group = refl

event_group-read : (g : EventGroup) (e : Standing) → IsSpellableEventGroup g
    → StandsAs (event_group_tag g) (event_group g) e → place.event_group (value.event_group e) ≡ place.event_group g
unfolding value.event_group
event_group-read g e s h =
    let sort = ap value.group_sort_of h.0.name ∙ group_sort-read g.sort in
    let id = id-read g.id [] e s.0 h.0.attributes in
    let name = named-name (event_group_tag g) g.id g.name e s.1 h in
    λ i. record { sort = sort i; id = id i; name = name i }

-- an event that may be written and read back
pub record IsGoodEvent (x : RawEvent) : Type 0 where
  pub in_form : IsEvent x
  pub spellable : IsSpellableEvent x
  pub resources : All IsGoodEventResource x.resources

good_event : (x : RawEvent) → IsEvent x → IsSpellableEvent x → IsGoodEvent x
good_event x f s = record {
  in_form = f;
  spellable = s;
  resources = All-both IsEventResource IsSpellableEventResource IsGoodEventResource
      (λ r a b. record { in_form = a; spellable = b }) x.resources f.resources s.resources;
}

pub good_events : (x : RawInstance) → IsInstance x → IsSpellableInstance x → All IsGoodEvent x.events
good_events x f s = All-both IsEvent IsSpellableEvent IsGoodEvent good_event x.events f.events s.events

events_apart : (x : RawInstance) → are_apart (events_parts x) ≡ true
unfolding word
events_apart x = refl

event_groups-read : (x : RawInstance) (k : Forest) → All IsSpellableEventGroup x.event_groups
    → Stands (row (events_parts x)) k
    → map place.event_group (map value.event_group (value.elements (value.kids_of (child tag.EventGroups k))))
    ≡ map place.event_group x.event_groups
unfolding word
event_groups-read x k s h =
    list-read tag.EventGroups event_group_tag event_group value.event_group place.event_group place.event_group
    IsSpellableEventGroup (λ g e p q. event_group-read g e p q) x.event_groups (child tag.EventGroups k) s
    (child-found tag.EventGroups (events_parts x) (events_apart x) k h)

events-read : (x : RawInstance) (k : Forest) → All IsGoodEvent x.events → Stands (row (events_parts x)) k
    → map place.event (map value.event (value.named tag.Event k)) ≡ map place.event x.events
unfolding word
events-read x k s h =
    many-read tag.Event event value.event place.event place.event IsGoodEvent
    (λ g e p q. event-read tag.Event g e p.in_form p.spellable p.resources q) x.events (value.named tag.Event k) s
    (named-found tag.Event (events_parts x) (events_apart x) k h)

-- constraints

pub record IsGoodConstraint (c : RawConstraint) : Type 0 where
  pub in_form : IsConstraint c
  pub spellable : IsSpellableConstraint c

pub good_constraints : (x : RawInstance) → IsInstance x → IsSpellableInstance x → All IsGoodConstraint x.constraints
good_constraints x f s = All-both IsConstraint IsSpellableConstraint IsGoodConstraint
    (λ c a b. record { in_form = a; spellable = b }) x.constraints f.constraints s.constraints

constraints-read : (x : RawInstance) (found : Option Standing) → All IsGoodConstraint x.constraints
    → IsFirst tag.Constraints (around (each constraint_tag constraint x.constraints)) found
    → map place.constraint (filter_map value.constraint (value.elements (value.kids_of found)))
    ≡ map place.constraint x.constraints
constraints-read x found g h =
    all_kept place.constraint value.constraint place.constraint (value.elements (value.kids_of found)) x.constraints
    (list-read tag.Constraints constraint_tag constraint value.constraint (λ c. Some (place.constraint c))
    (option_map place.constraint) IsGoodConstraint (λ c d p q. constraint-read c d p.in_form p.spellable q)
    x.constraints found g h)

-- what is said of an instance as a whole
pub meta_data_if : (m : Option MetaData) (found : Option Standing) → IfSome m IsSpellableMetaData
    → IsFirst tag.MetaData (bodies_if meta_data m) found → option_map value.meta_data found ≡ m
meta_data_if None found s h = ap (option_map value.meta_data) h
meta_data_if (Some m) found s h = ap (option_map value.meta_data) h.1
    ∙ ap Some (meta_data-read tag.MetaData m h.0 s h.2)

-- an instance

instance_apart : (x : RawInstance) → are_apart (instance_parts x) ≡ true
unfolding word
instance_apart x = refl

pub record IsGoodInstance (x : RawInstance) : Type 0 where
  pub in_form : IsInstance x
  pub spellable : IsSpellableInstance x

pub instance-read : (t : Tag) (x : RawInstance) (e : Standing) → IsGoodInstance x → StandsAs t (instance x) e
    → place.instance (value.instance e) ≡ place.instance x
unfolding value.instance value.every value.every_inside value.all_inside word
instance-read t x e g h =
    let s = g.spellable in
    let found : (u : Tag) → IsFirst u (bodies_of u (instance_parts x)) (child u e.kids) =
    λ u. child-found u (instance_parts x) (instance_apart x) e.kids h.1 in
    let id = id-read x.id [] e s.id h.0.attributes in
    let about = meta_data_if x.meta_data (child tag.MetaData e.kids) s.meta_data (found tag.MetaData) in
    let times_here = around-stands tag.Times (row (times_parts x)) (child tag.Times e.kids) (found tag.Times) in
    let resources_here = around-stands tag.Resources (row (resources_parts x)) (child tag.Resources e.kids)
    (found tag.Resources) in
    let events_here = around-stands tag.Events (row (events_parts x)) (child tag.Events e.kids) (found tag.Events) in
    let time_groups = time_groups-read x (value.kids_of (child tag.Times e.kids)) s.time_groups times_here in
    let times = times-read x (value.kids_of (child tag.Times e.kids)) s.times times_here in
    let types = resource_types-read x (value.kids_of (child tag.Resources e.kids)) s.resource_types resources_here in
    let groups = resource_groups-read x (value.kids_of (child tag.Resources e.kids)) s.resource_groups resources_here in
    let resources = resources-read x (value.kids_of (child tag.Resources e.kids)) s.resources resources_here in
    let sets = event_groups-read x (value.kids_of (child tag.Events e.kids)) s.event_groups events_here in
    let events = events-read x (value.kids_of (child tag.Events e.kids)) (good_events x g.in_form s) events_here in
    let constraints = constraints-read x (child tag.Constraints e.kids) (good_constraints x g.in_form s)
    (found tag.Constraints) in
    λ i. record {
      id = id i;
      meta_data = about i;
      time_groups = time_groups i;
      times = times i;
      resource_types =
          types i;
      resource_groups = groups i;
      resources = resources i;
      event_groups = sets i;
      events = events i;
      constraints = constraints i;
    }
