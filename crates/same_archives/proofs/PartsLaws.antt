-- The parts of an instance do not depend on the places of its references and names.
use Rattle.std.proofs.Common.{◌≡◌, ◌∙◌, ap, ap₂, refl, ℕ, ◌+◌, false, Option, Some, None, List, [], ◌∷◌, ◌++◌}
use Rattle.std.proofs.Common.{map, flat_map, option_map, slice_get}
use Rattle.std.specs.Prelude.{unwrap_or, if◌then◌else◌}
use Rattle.std.specs.List.{range_with_len}
use Rattle.std.specs.Option.{option_map_or, option_to_list}
use Rattle.std.specs.Str.{bytes_eq}
use Rattle.std.proofs.lemmas.List.{length-map}
use Rattle.khe_base.specs.Names.{is_among_names, number_of}
use Rattle.khe_instance.specs.Kinds.{kind_of}
use Rattle.khe_instance.specs.declared.points.Point.TheVariants as standing
use Rattle.khe_instance.specs.declared.rules.Rule.TheVariants as followed
use Rattle.xhstt_references.specs.Ids as ids
use Rattle.xhstt_resolve.specs.Members as member
use Rattle.xhstt_resolve.specs.Parts as part
use Rattle.xhstt_resolve.specs.Points as point
use Rattle.xhstt_resolve.specs.Rules as ruling
use Rattle.xhstt_resolve.specs.Units.{unit_of}
use Rattle.xhstt_shape.specs.Places.{applies, constraint, event, event_group, event_resource, instance, name, pair}
use Rattle.xhstt_shape.specs.Places.{reference, references, resource, resource_group, resource_type, rule, spread, time}
use Rattle.xhstt_shape.specs.Places.{time_group}
use Rattle.xhstt_shape.specs.declared.constraints.RawApplies.{RawApplies}
use Rattle.xhstt_shape.specs.declared.constraints.RawApplies.TheVariants as applied
use Rattle.xhstt_shape.specs.declared.constraints.RawConstraint.{RawConstraint}
use Rattle.xhstt_shape.specs.declared.constraints.RawPair.{RawPair}
use Rattle.xhstt_shape.specs.declared.constraints.RawRule.{RawRule}
use Rattle.xhstt_shape.specs.declared.constraints.RawRule.TheVariants as ruled
use Rattle.xhstt_shape.specs.declared.constraints.RawSpread.{RawSpread}
use Rattle.xhstt_shape.specs.declared.records.EventGroup.{EventGroup}
use Rattle.xhstt_shape.specs.declared.records.Name.{Name}
use Rattle.xhstt_shape.specs.declared.records.RawEvent.{RawEvent}
use Rattle.xhstt_shape.specs.declared.records.RawEventResource.{RawEventResource}
use Rattle.xhstt_shape.specs.declared.records.RawInstance.{RawInstance}
use Rattle.xhstt_shape.specs.declared.records.RawResource.{RawResource}
use Rattle.xhstt_shape.specs.declared.records.Ref.{Ref}
use Rattle.xhstt_shape.specs.declared.records.ResourceGroup.{ResourceGroup}
use Rattle.xhstt_shape.specs.declared.records.ResourceType.{ResourceType}
use Rattle.xhstt_shape.specs.declared.records.Time.{Time}
use Rattle.xhstt_shape.specs.declared.records.TimeGroup.{TimeGroup}
use Rattle.same_archives.proofs.ListLaws.{at_alike, chosen_alike, flat_alike, map_alike, numbered_alike}
use Rattle.same_archives.proofs.ListLaws.{numbers_alike, some_alike}

-- the Ids
pub time_group_ids : (i : RawInstance) → ids.time_group_ids (instance i) ≡ ids.time_group_ids i
time_group_ids i = map_alike (λ (g : TimeGroup). g.id.text) (λ (g : TimeGroup). g.id.text) time_group (λ g. refl)
    i.time_groups

pub time_ids : (i : RawInstance) → ids.time_ids (instance i) ≡ ids.time_ids i
time_ids i = map_alike (λ (t : Time). t.id.text) (λ (t : Time). t.id.text) time (λ t. refl) i.times

pub resource_type_ids : (i : RawInstance) → ids.resource_type_ids (instance i) ≡ ids.resource_type_ids i
resource_type_ids i =
    map_alike (λ (t : ResourceType). t.id.text) (λ (t : ResourceType). t.id.text) resource_type (λ t. refl)
    i.resource_types

pub resource_group_ids : (i : RawInstance) → ids.resource_group_ids (instance i) ≡ ids.resource_group_ids i
resource_group_ids i =
    map_alike (λ (g : ResourceGroup). g.id.text) (λ (g : ResourceGroup). g.id.text) resource_group (λ g. refl)
    i.resource_groups

pub resource_ids : (i : RawInstance) → ids.resource_ids (instance i) ≡ ids.resource_ids i
resource_ids i = map_alike (λ (r : RawResource). r.id.text) (λ (r : RawResource). r.id.text) resource (λ r. refl)
    i.resources

pub event_group_ids : (i : RawInstance) → ids.event_group_ids (instance i) ≡ ids.event_group_ids i
event_group_ids i =
    map_alike (λ (g : EventGroup). g.id.text) (λ (g : EventGroup). g.id.text) event_group (λ g. refl) i.event_groups

pub event_ids : (i : RawInstance) → ids.event_ids (instance i) ≡ ids.event_ids i
event_ids i = map_alike (λ (e : RawEvent). e.id.text) (λ (e : RawEvent). e.id.text) event (λ e. refl) i.events

-- the members of groups
named : (rs : List Ref) → member.named (references rs) ≡ member.named rs
named rs = map_alike (λ (r : Ref). r.id) (λ (r : Ref). r.id) reference (λ r. refl) rs

named_one : (o : Option Ref)
    → member.named (option_to_list (option_map reference o)) ≡ member.named (option_to_list o)
named_one None = refl
named_one (Some r) = refl

groups_of_time : (t : Time) → member.groups_of_time (time t) ≡ member.groups_of_time t
groups_of_time t =
    λ j. named_one t.week j ++ (named_one t.day j ++ named t.time_groups j)

groups_of_event : (e : RawEvent) → member.groups_of_event (event e) ≡ member.groups_of_event e
groups_of_event e = λ j. named_one e.course j ++ named e.event_groups j

members_in : {A : Type 0} (ids own : List (List ℕ)) (groups : A → List (List ℕ)) (g : A → A) → own ≡ ids
    → ((x : A) → groups (g x) ≡ groups x) → (xs : List A) (id : List ℕ)
    → member.members_in own groups (map g xs) id ≡ member.members_in ids groups xs id
members_in ids own groups g e h xs id =
    ap₂ (λ names ns. if is_among_names id names then ns else []) e
    (numbers_alike (λ x. is_among_names id (groups x)) (λ x. is_among_names id (groups x)) g
    (λ x. ap (is_among_names id) (h x)) 0 xs)

pub times_in : (i : RawInstance) (id : List ℕ) → member.times_in (instance i) id ≡ member.times_in i id
times_in i id =
    members_in (ids.time_group_ids i) (ids.time_group_ids (instance i)) member.groups_of_time time (time_group_ids i)
    groups_of_time i.times id

pub resources_in : (i : RawInstance) (id : List ℕ) → member.resources_in (instance i) id ≡ member.resources_in i id
resources_in i id =
    members_in (ids.resource_group_ids i) (ids.resource_group_ids (instance i)) member.groups_of_resource resource
    (resource_group_ids i) (λ r. named r.resource_groups) i.resources id

pub events_in : (i : RawInstance) (id : List ℕ) → member.events_in (instance i) id ≡ member.events_in i id
events_in i id =
    members_in (ids.event_group_ids i) (ids.event_group_ids (instance i)) member.groups_of_event event
    (event_group_ids i) groups_of_event i.events id

-- what is listed
pub numbers_of : (ids own : List (List ℕ)) → own ≡ ids → (rs : List Ref)
    → member.numbers_of own (references rs) ≡ member.numbers_of ids rs
numbers_of ids own e rs =
    chosen_alike (λ (r : Ref). number_of r.id ids) (λ (r : Ref). number_of r.id own) reference
    (λ r. ap (number_of r.id) e) rs

listed : (f own : List ℕ → List ℕ) (ids mine : List (List ℕ)) → ((id : List ℕ) → own id ≡ f id) → mine ≡ ids
    → (gs rs : List Ref) → member.listed own mine (references gs) (references rs) ≡ member.listed f ids gs rs
listed f own ids mine h e gs rs =
    ap₂ (λ x y. x ++ y) (flat_alike (λ (g : Ref). f g.id) (λ (g : Ref). own g.id) reference (λ g. h g.id) gs)
    (numbers_of ids mine e rs)

pub listed_times : (i : RawInstance) (gs rs : List Ref)
    → member.listed_times (instance i) (references gs) (references rs) ≡ member.listed_times i gs rs
listed_times i gs rs =
    listed (member.times_in i) (member.times_in (instance i)) (ids.time_ids i) (ids.time_ids (instance i)) (times_in i)
    (time_ids i) gs rs

pub listed_resources : (i : RawInstance) (gs rs : List Ref)
    → member.listed_resources (instance i) (references gs) (references rs) ≡ member.listed_resources i gs rs
listed_resources i gs rs =
    listed (member.resources_in i) (member.resources_in (instance i)) (ids.resource_ids i)
    (ids.resource_ids (instance i)) (resources_in i) (resource_ids i) gs rs

listed_events : (i : RawInstance) (gs rs : List Ref)
    → member.listed_events (instance i) (references gs) (references rs) ≡ member.listed_events i gs rs
listed_events i gs rs =
    listed (member.events_in i) (member.events_in (instance i)) (ids.event_ids i) (ids.event_ids (instance i))
    (events_in i) (event_ids i) gs rs

-- sets
time_set : (i : RawInstance) (ns ms : List ℕ) → ns ≡ ms → member.time_set (instance i) ns ≡ member.time_set i ms
time_set i ns ms e = ap₂ member.set_of (length-map i.times time) e

resource_set : (i : RawInstance) (ns ms : List ℕ) → ns ≡ ms
    → member.resource_set (instance i) ns ≡ member.resource_set i ms
resource_set i ns ms e = ap₂ member.set_of (length-map i.resources resource) e

event_set : (i : RawInstance) (ns ms : List ℕ) → ns ≡ ms → member.event_set (instance i) ns ≡ member.event_set i ms
event_set i ns ms e = ap₂ member.set_of (length-map i.events event) e

-- rules
group_set : (i : RawInstance) (g : Ref) → ruling.group_set (instance i) (reference g) ≡ ruling.group_set i g
group_set i g = time_set i (member.times_in (instance i) g.id) (member.times_in i g.id) (times_in i g.id)

group_sets : (i : RawInstance) (gs : List Ref) → ruling.group_sets (instance i) (references gs) ≡ ruling.group_sets i gs
group_sets i gs = map_alike (ruling.group_set i) (ruling.group_set (instance i)) reference (group_set i) gs

spread_of : (i : RawInstance) (s : RawSpread) → ruling.spread_of (instance i) (spread s) ≡ ruling.spread_of i s
spread_of i s = λ j. record { group = group_set i s.reference j; min = s.min; max = s.max }

pub event_named : (i : RawInstance) (r : Ref) → ruling.event_named (instance i) (reference r) ≡ ruling.event_named i r
event_named i r = λ j. record { 0 = unwrap_or (number_of r.id (event_ids i j)) 0 }

pub pair_of : (i : RawInstance) (p : RawPair) → ruling.pair_of (instance i) (pair p) ≡ ruling.pair_of i p
pair_of i p = λ j. record {
  first = event_named i p.first j;
  second = event_named i p.second j;
  min = p.min;
  max = p.max;
}

pub pairs_of : (i : RawInstance) (a : RawApplies) → ruling.pairs_of (instance i) (applies a) ≡ ruling.pairs_of i a
pairs_of i (applied.Events groups events) = refl
pairs_of i (applied.Groups groups) = refl
pairs_of i (applied.Pairs pairs) = map_alike (ruling.pair_of i) (ruling.pair_of (instance i)) pair (pair_of i) pairs
pairs_of i (applied.Resources groups resources) = refl

pub rule_of : (i : RawInstance) (a : RawApplies) (r : RawRule)
    → ruling.rule_of (instance i) (applies a) (rule r) ≡ ruling.rule_of i a r
rule_of i a ruled.AssignTime = refl
rule_of i a (ruled.AssignResource role) = refl
rule_of i a (ruled.SplitEvents b c d e) = refl
rule_of i a (ruled.DistributeSplitEvents d least greatest) = refl
rule_of i a (ruled.PreferTimes groups times duration) =
    ap (λ s. followed.PreferTimes s duration)
    (time_set i (member.listed_times (instance i) (references groups) (references times))
    (member.listed_times i groups times) (listed_times i groups times))
rule_of i a (ruled.PreferResources groups resources role) =
    ap (λ s. followed.PreferResources s role.text)
    (resource_set i (member.listed_resources (instance i) (references groups) (references resources))
    (member.listed_resources i groups resources) (listed_resources i groups resources))
rule_of i a (ruled.AvoidSplitAssignments role) = refl
rule_of i a (ruled.SpreadEvents groups) =
    ap followed.SpreadEvents (map_alike (ruling.spread_of i) (ruling.spread_of (instance i)) spread (spread_of i) groups)
rule_of i a ruled.LinkEvents = refl
rule_of i a ruled.OrderEvents = ap followed.OrderEvents (pairs_of i a)
rule_of i a ruled.AvoidClashes = refl
rule_of i a (ruled.AvoidUnavailableTimes groups times) =
    ap followed.AvoidUnavailableTimes
    (time_set i (member.listed_times (instance i) (references groups) (references times))
    (member.listed_times i groups times) (listed_times i groups times))
rule_of i a (ruled.LimitIdleTimes groups least greatest) =
    ap (λ s. followed.LimitIdleTimes s least greatest) (group_sets i groups)
rule_of i a (ruled.ClusterBusyTimes groups least greatest) =
    ap (λ s. followed.ClusterBusyTimes s least greatest) (group_sets i groups)
rule_of i a (ruled.LimitBusyTimes groups least greatest) =
    ap (λ s. followed.LimitBusyTimes s least greatest) (group_sets i groups)
rule_of i a (ruled.LimitWorkload least greatest) = refl

-- points
role_of : (r : RawRule) → point.role_of (rule r) ≡ point.role_of r
role_of ruled.AssignTime = refl
role_of (ruled.AssignResource role) = refl
role_of (ruled.SplitEvents b c d e) = refl
role_of (ruled.DistributeSplitEvents d least greatest) = refl
role_of (ruled.PreferTimes groups times duration) = refl
role_of (ruled.PreferResources groups resources role) = refl
role_of (ruled.AvoidSplitAssignments role) = refl
role_of (ruled.SpreadEvents groups) = refl
role_of ruled.LinkEvents = refl
role_of ruled.OrderEvents = refl
role_of ruled.AvoidClashes = refl
role_of (ruled.AvoidUnavailableTimes groups times) = refl
role_of (ruled.LimitIdleTimes groups least greatest) = refl
role_of (ruled.ClusterBusyTimes groups least greatest) = refl
role_of (ruled.LimitBusyTimes groups least greatest) = refl
role_of (ruled.LimitWorkload least greatest) = refl

has_role : (role : List ℕ) (r : RawEventResource)
    → point.has_role role (event_resource r) ≡ point.has_role role r
has_role role r =
    some_alike (λ (n : Name). bytes_eq n.text role) (λ (n : Name). bytes_eq n.text role) name false (λ n. refl) r.role

-- the event resources of an event, by its number; and those with a role
mapped_out : (o : Option RawEvent) → option_map_or (λ (x : RawEvent). map event_resource x.resources) o []
    ≡ map event_resource (option_map_or (λ (x : RawEvent). x.resources) o [])
mapped_out None = refl
mapped_out (Some x) = refl

places_at : (i : RawInstance) (e : ℕ) → point.places_at (instance i) e ≡ map event_resource (point.places_at i e)
places_at i e =
    at_alike (λ (x : RawEvent). map event_resource x.resources) (λ (x : RawEvent). x.resources) event [] (λ x. refl)
    i.events e
    ∙ mapped_out (slice_get i.events e)

role_numbers : (i : RawInstance) (role : List ℕ) (e : ℕ)
    → member.numbers_where (point.has_role role) (point.places_at (instance i) e)
    ≡ member.numbers_where (point.has_role role) (point.places_at i e)
role_numbers i role e =
    ap (member.numbers_where (point.has_role role)) (places_at i e)
    ∙ numbers_alike (point.has_role role) (point.has_role role) event_resource (has_role role) 0 (point.places_at i e)

role_points : (i : RawInstance) (role : List ℕ) (e : ℕ)
    → point.role_points (instance i) role e ≡ point.role_points i role e
role_points i role e = ap (map (point.place_point e)) (role_numbers i role e)

points_of_events : (i : RawInstance) (role : Option (List ℕ)) (es : List ℕ)
    → point.points_of_events (instance i) role es ≡ point.points_of_events i role es
points_of_events i None es = refl
points_of_events i (Some role) es = λ j. flat_map (λ e. role_points i role e j) es

points_in : (i : RawInstance) (role : Option (List ℕ)) (a : RawApplies)
    → point.points_in (instance i) role (applies a) ≡ point.points_in i role a
points_in i role (applied.Events groups events) =
    (λ j. point.points_of_events (instance i) role (member.first_mentions (listed_events i groups events j)))
    ∙ points_of_events i role (member.first_mentions (member.listed_events i groups events))
points_in i role (applied.Groups groups) =
    ap (λ ns. map standing.EventGroup (member.first_mentions ns))
    (numbers_of (ids.event_group_ids i) (ids.event_group_ids (instance i)) (event_group_ids i) groups)
points_in i role (applied.Pairs pairs) =
    ap (λ n. map standing.EventPair (range_with_len 0 n)) (length-map pairs pair)
points_in i role (applied.Resources groups resources) =
    ap (λ ns. map point.resource_point (member.first_mentions ns)) (listed_resources i groups resources)

pub points_of : (i : RawInstance) (c : RawConstraint) → point.points_of (instance i) (constraint c) ≡ point.points_of i c
points_of i c =
    ap (λ o. point.points_in (instance i) o (applies c.applies)) (role_of c.rule)
    ∙ points_in i (point.role_of c.rule) c.applies

-- monitors
monitors_at : (i : RawInstance) (k : ℕ) (c : RawConstraint)
    → point.monitors_at (instance i) (k, constraint c) ≡ point.monitors_at i (k, c)
monitors_at i k c = λ j. map (point.monitor_of (kind_of (rule_of i c.applies c.rule j)) k) (points_of i c j)

pub monitors_of : (i : RawInstance) → point.monitors_of (instance i) ≡ point.monitors_of i
monitors_of i =
    numbered_alike (point.monitors_at i) (point.monitors_at (instance i)) constraint (monitors_at i) 0 i.constraints

-- resources and their types
type_named : (i : RawInstance) (r : Ref) → part.type_named (instance i) (reference r) ≡ part.type_named i r
type_named i r = λ j. unwrap_or (number_of r.id (resource_type_ids i j)) 0

type_at : (i : RawInstance) (n : ℕ) → part.type_at (instance i) n ≡ part.type_at i n
type_at i n =
    at_alike (λ (r : RawResource). part.type_named i r.resource_type)
    (λ (r : RawResource). part.type_named (instance i) r.resource_type) resource 0 (λ r. type_named i r.resource_type)
    i.resources n

type_of_resource : (i : RawInstance) (r : Ref)
    → part.type_of_resource (instance i) (reference r) ≡ part.type_of_resource i r
type_of_resource i r = λ j. option_map_or (λ n. type_at i n j) (number_of r.id (resource_ids i j)) 0

resource_of : (i : RawInstance) (r : RawResource) → part.resource_of (instance i) (resource r) ≡ part.resource_of i r
resource_of i r = λ j. record { id = r.id.text; rtype = type_named i r.resource_type j }

group_of : (i : RawInstance) (g : EventGroup) → part.group_of (instance i) (event_group g) ≡ part.group_of i g
group_of i g = λ j. record {
  id = g.id.text;
  events = event_set i (member.events_in (instance i) g.id.text) (member.events_in i g.id.text)
      (events_in i g.id.text) j;
}

-- the places of events
place_type : (i : RawInstance) (fixed wanted : Option Ref)
    → part.place_type (instance i) (option_map reference fixed) (option_map reference wanted)
    ≡ part.place_type i fixed wanted
place_type i (Some r) wanted = type_of_resource i r
place_type i None wanted =
    some_alike (part.type_named i) (part.type_named (instance i)) reference 0 (type_named i) wanted

fixed_time : (i : RawInstance) (o : Option Ref)
    → part.fixed_time (instance i) (option_map reference o) ≡ part.fixed_time i o
fixed_time i None = refl
fixed_time i (Some r) = λ j. option_map (λ n. record { 0 = n }) (number_of r.id (time_ids i j))

fixed_resource : (i : RawInstance) (o : Option Ref)
    → part.fixed_resource (instance i) (option_map reference o) ≡ part.fixed_resource i o
fixed_resource i None = refl
fixed_resource i (Some r) = λ j. option_map (λ n. record { 0 = n }) (number_of r.id (resource_ids i j))

role_text : (o : Option Name) → part.role_text (option_map name o) ≡ part.role_text o
role_text None = refl
role_text (Some n) = refl

place_of : (i : RawInstance) (e : RawEvent) (r : RawEventResource)
    → part.place_of (instance i) (event e) (event_resource r) ≡ part.place_of i e r
place_of i e r = λ j. record {
  role = role_text r.role j;
  rtype = place_type i r.reference r.resource_type j;
  fixed = fixed_resource i r.reference j;
  workload = unwrap_or r.workload (part.workload_of e);
}

member_place : (i : RawInstance) (e : RawEvent) (n : ℕ)
    → part.member_place (instance i) (event e) n ≡ part.member_place i e n
member_place i e n = λ j. record {
  role = None;
  rtype = type_at i n j;
  fixed = Some (record { 0 = n });
  workload = part.workload_of e;
}

group_places : (i : RawInstance) (e : RawEvent) (g : Ref)
    → part.group_places (instance i) (event e) (reference g) ≡ part.group_places i e g
group_places i e g = λ j. map (λ n. member_place i e n j) (resources_in i g.id j)

pub places_of : (i : RawInstance) (e : RawEvent) → part.places_of (instance i) (event e) ≡ part.places_of i e
places_of i e =
    ap₂ (λ x y. x ++ y)
    (map_alike (part.place_of i e) (part.place_of (instance i) (event e)) event_resource (place_of i e) e.resources)
    (flat_alike (part.group_places i e) (part.group_places (instance i) (event e)) reference (group_places i e)
    e.resource_groups)

-- events, constraints and all
event_of : (i : RawInstance) (next : ℕ) (e : RawEvent)
    → part.event_of (instance i) next (event e) ≡ part.event_of i next e
event_of i next e = λ j. record {
  id = e.id.text;
  duration = e.duration;
  fixed = fixed_time i e.time j;
  first_meet = next;
  places = places_of i e j;
}

events_from : (i : RawInstance) (next : ℕ) (es : List RawEvent)
    → part.events_from (instance i) next (map event es) ≡ part.events_from i next es
events_from i next [] = refl
events_from i next (e ∷ es) = ap₂ (λ x xs. x ∷ xs) (event_of i next e) (events_from i (next + e.duration) es)

constraint_of : (i : RawInstance) (c : RawConstraint)
    → part.constraint_of (instance i) (constraint c) ≡ part.constraint_of i c
constraint_of i c = λ j. record {
  id = c.id.text;
  required = c.required;
  weight = c.weight;
  cost = c.cost;
  rule = rule_of i c.applies c.rule j;
}

pub durations : (es : List RawEvent)
    → map (λ (e : RawEvent). e.duration) (map event es) ≡ map (λ (e : RawEvent). e.duration) es
durations es = map_alike (λ (e : RawEvent). e.duration) (λ (e : RawEvent). e.duration) event (λ e. refl) es

pub parts_of : (i : RawInstance) → part.parts_of (instance i) ≡ part.parts_of i
parts_of i = λ j. record {
  id = i.id.text;
  times = time_ids i j;
  types = length-map i.resource_types resource_type j;
  resources = map_alike (part.resource_of i) (part.resource_of (instance i)) resource (resource_of i) i.resources j;
  groups = map_alike (part.group_of i) (part.group_of (instance i)) event_group (group_of i) i.event_groups j;
  events = events_from i 0 i.events j;
  constraints = map_alike (part.constraint_of i) (part.constraint_of (instance i)) constraint (constraint_of i)
      i.constraints j;
  monitors = monitors_of i j;
  unit = unit_of (durations i.events j);
}
