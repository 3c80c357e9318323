-- The entries of a timetable: one for each meet, with its event, its duration, its start, and the resources that its
-- tasks are given, but for what is preassigned. A solution with them keeps its description and its running time.
use Rattle.std.specs.Prelude.{ℕ, ◌==◌, Option, Some, None, List, [], ◌∷◌, map, slice_get}
use Rattle.std.specs.List.{filter, flat_map}
use Rattle.std.specs.Option.{option_map, option_map_or}
use Rattle.khe_base.specs.declared.numbers.EventId.{EventId}
use Rattle.khe_base.specs.declared.numbers.ResourceId.{ResourceId}
use Rattle.khe_base.specs.declared.numbers.TimeId.{TimeId}
use Rattle.khe_instance.specs.Running.{duties}
use Rattle.khe_instance.specs.States.{place_of}
use Rattle.khe_instance.specs.declared.parts.Parts.{Parts}
use Rattle.khe_instance.specs.declared.parts.Place.{Place}
use Rattle.khe_instance.specs.declared.states.Duty.{Duty}
use Rattle.khe_instance.specs.declared.states.Meet.{Meet}
use Rattle.khe_instance.specs.declared.states.Plain.{Plain}
use Rattle.xhstt_shape.specs.declared.records.Name.{Name}
use Rattle.xhstt_shape.specs.declared.records.RawEntry.{RawEntry}
use Rattle.xhstt_shape.specs.declared.records.RawGiven.{RawGiven}
use Rattle.xhstt_shape.specs.declared.records.RawSolution.{RawSolution}
use Rattle.xhstt_shape.specs.declared.records.Ref.{Ref}

-- a reference and a role that stand in no text yet
abbrev pub to : List ℕ → Ref
to id = record { id = id; at = 0 }

abbrev pub role_named : List ℕ → Name
role_named role = record { text = role; at = 0 }

-- the Ids of an event, a time and a resource
abbrev pub event_id : Parts → EventId → List ℕ
event_id p e = option_map_or (λ event. event.id) (slice_get p.events e.0) []

abbrev pub time_id : Parts → TimeId → List ℕ
time_id p t = option_map_or (λ id. id) (slice_get p.times t.0) []

abbrev pub resource_id : Parts → ResourceId → List ℕ
resource_id p r = option_map_or (λ resource. resource.id) (slice_get p.resources r.0) []

-- a resource is given at its place, unless one is preassigned there
abbrev pub given_at : Parts → Place → ResourceId → List RawGiven
given_at p place r = option_map_or (λ fixed. []) place.fixed
    (record { reference = to (resource_id p r); role = option_map role_named place.role } ∷ [])

-- what a task with its meet gives
abbrev pub given_by : Parts → Option Place → Option ResourceId → List RawGiven
given_by p None resource = []
given_by p (Some place) None = []
given_by p (Some place) (Some r) = given_at p place r

abbrev pub given_of : Parts → Duty → List RawGiven
given_of p d = given_by p (place_of p d) d.resource

-- the entry of a meet with these duties: its event, its duration, its start and what is given
abbrev pub entry_with : Parts → Meet → List Duty → RawEntry
entry_with p m own = record {
  reference = to (event_id p m.event);
  duration = Some m.duration;
  time = option_map (λ t. to (time_id p t)) m.start;
  resources = flat_map (given_of p) own;
}

-- the duties of a meet among others
abbrev pub own_duties : Meet → List Duty → List Duty
own_duties m ds = filter (λ d. d.meet.meet.0 == m.meet.0) ds

abbrev pub entry_of : Parts → List Duty → Meet → RawEntry
entry_of p ds m = entry_with p m (own_duties m ds)

-- one entry for each meet, in the order of their numbers
abbrev pub entries_of : Parts → Plain → List RawEntry
entries_of p s = map (entry_of p (duties s.meets s.tasks)) s.meets

-- a solution with these entries in place of its own
abbrev pub spelled : Parts → Plain → RawSolution → RawSolution
spelled p s old = record old { events = entries_of p s }
