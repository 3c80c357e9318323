-- The parts of an instance, with its references followed. The places of an event are its resources and then one for
-- each member of each resource group that it names. A workload that is missing is the event's, else its duration.
-- References that name nothing lead to the first of their sort; the faults of references exclude them.
use Rattle.std.specs.Prelude.{ℕ, ◌+◌, Option, Some, None, unwrap_or, List, [], ◌∷◌, ◌++◌, map, length, slice_get}
use Rattle.std.specs.List.{flat_map}
use Rattle.std.specs.Option.{option_map, option_map_or}
use Rattle.khe_base.specs.Names.{number_of}
use Rattle.khe_base.specs.declared.numbers.ResourceId.{ResourceId}
use Rattle.khe_base.specs.declared.numbers.TimeId.{TimeId}
use Rattle.khe_instance.specs.declared.parts.EventInfo.{EventInfo}
use Rattle.khe_instance.specs.declared.parts.GroupInfo.{GroupInfo}
use Rattle.khe_instance.specs.declared.parts.Parts.{Parts}
use Rattle.khe_instance.specs.declared.parts.Place.{Place}
use Rattle.khe_instance.specs.declared.parts.ResourceInfo.{ResourceInfo}
use Rattle.khe_instance.specs.declared.rules.Constraint.{Constraint}
use Rattle.xhstt_references.specs.Ids.{time_ids, resource_type_ids, resource_ids}
use Rattle.xhstt_resolve.specs.Members.{resources_in, events_in, event_set}
use Rattle.xhstt_resolve.specs.Points.{monitors_of}
use Rattle.xhstt_resolve.specs.Rules.{rule_of}
use Rattle.xhstt_resolve.specs.Units.{unit_of}
use Rattle.xhstt_shape.specs.declared.constraints.RawConstraint.{RawConstraint}
use Rattle.xhstt_shape.specs.declared.records.EventGroup.{EventGroup}
use Rattle.xhstt_shape.specs.declared.records.Name.{Name}
use Rattle.xhstt_shape.specs.declared.records.RawEvent.{RawEvent}
use Rattle.xhstt_shape.specs.declared.records.RawEventResource.{RawEventResource}
use Rattle.xhstt_shape.specs.declared.records.RawInstance.{RawInstance}
use Rattle.xhstt_shape.specs.declared.records.RawResource.{RawResource}
use Rattle.xhstt_shape.specs.declared.records.Ref.{Ref}

-- the number of the type that a reference names
abbrev pub type_named : RawInstance → Ref → ℕ
type_named i r = unwrap_or (number_of r.id (resource_type_ids i)) 0

-- the type of the resource with a number, and of the resource that a reference names
abbrev pub type_at : RawInstance → ℕ → ℕ
type_at i n = option_map_or (λ r. type_named i r.resource_type) (slice_get i.resources n) 0

abbrev pub type_of_resource : RawInstance → Ref → ℕ
type_of_resource i r = option_map_or (type_at i) (number_of r.id (resource_ids i)) 0

abbrev pub resource_of : RawInstance → RawResource → ResourceInfo
resource_of i r = record { id = r.id.text; rtype = type_named i r.resource_type }

abbrev pub group_of : RawInstance → EventGroup → GroupInfo
group_of i g = record { id = g.id.text; events = event_set i (events_in i g.id.text) }

-- a preassigned resource has its own type in its place, any other place the type that it asks for
abbrev pub place_type : RawInstance → Option Ref → Option Ref → ℕ
place_type i (Some resource) wanted = type_of_resource i resource
place_type i None wanted = option_map_or (type_named i) wanted 0

-- the preassigned time or resource that a reference names
abbrev pub fixed_time : RawInstance → Option Ref → Option TimeId
fixed_time i None = None
fixed_time i (Some r) = option_map (λ n. record { 0 = n }) (number_of r.id (time_ids i))

abbrev pub fixed_resource : RawInstance → Option Ref → Option ResourceId
fixed_resource i None = None
fixed_resource i (Some r) = option_map (λ n. record { 0 = n }) (number_of r.id (resource_ids i))

-- the role that a name gives
abbrev pub role_text : Option Name → Option (List ℕ)
role_text name = option_map (λ n. n.text) name

-- what an event is worth where a place says nothing else
abbrev pub workload_of : RawEvent → ℕ
workload_of e = unwrap_or e.workload e.duration

-- the place of a listed event resource
abbrev pub place_of : RawInstance → RawEvent → RawEventResource → Place
place_of i e r = record {
  role = role_text r.role;
  rtype = place_type i r.reference r.resource_type;
  fixed = fixed_resource i r.reference;
  workload = unwrap_or r.workload (workload_of e);
}

-- the place of a resource that takes part as a member of a group
abbrev pub member_place : RawInstance → RawEvent → ℕ → Place
member_place i e n = record {
  role = None;
  rtype = type_at i n;
  fixed = Some (record { 0 = n });
  workload = workload_of e;
}

abbrev pub group_places : RawInstance → RawEvent → Ref → List Place
group_places i e g = map (member_place i e) (resources_in i g.id)

-- the listed event resources, and then the members of the event's groups, group by group
abbrev pub places_of : RawInstance → RawEvent → List Place
places_of i e = map (place_of i e) e.resources ++ flat_map (group_places i e) e.resource_groups

-- an event whose first meet slot has this number
abbrev pub event_of : RawInstance → ℕ → RawEvent → EventInfo
event_of i next e = record {
  id = e.id.text;
  duration = e.duration;
  fixed = fixed_time i e.time;
  first_meet = next;
  places = places_of i e;
}

-- the events, the slots of one after those of the ones before it
abbrev pub events_from : RawInstance → ℕ → List RawEvent → List EventInfo
events_from i next [] = []
events_from i next (e ∷ es) = event_of i next e ∷ events_from i (next + e.duration) es

abbrev pub constraint_of : RawInstance → RawConstraint → Constraint
constraint_of i c = record {
  id = c.id.text;
  required = c.required;
  weight = c.weight;
  cost = c.cost;
  rule = rule_of i c.applies c.rule;
}

abbrev pub parts_of : RawInstance → Parts
parts_of i = record {
  id = i.id.text;
  times = time_ids i;
  types = length i.resource_types;
  resources = map (resource_of i) i.resources;
  groups = map (group_of i) i.event_groups;
  events = events_from i 0 i.events;
  constraints = map (constraint_of i) i.constraints;
  monitors = monitors_of i;
  unit = unit_of (map (λ e. e.duration) i.events);
}
