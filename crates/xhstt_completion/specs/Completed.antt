-- The state that a solution says. The meets of an event are its entries in order and, where they fall short of its
-- duration, one more of what is missing. Preassigned times and resources are given without being told.
use Rattle.std.specs.Prelude.{ℕ, ◌≡◌, ◌-◌, ◌==◌, if◌then◌else◌, Option, Some, None, List, [], ◌∷◌, ◌++◌, map, find}
use Rattle.std.specs.Prelude.{Result, Ok, Err}
use Rattle.std.specs.List.{flat_map, enumerate_from}
use Rattle.std.specs.Option.{option_or, option_and_then}
use Rattle.fault_tables.specs.Told.{Tells}
use Rattle.khe_base.specs.declared.numbers.ResourceId.{ResourceId}
use Rattle.khe_base.specs.declared.numbers.TimeId.{TimeId}
use Rattle.khe_instance.specs.Lookups.{is_role}
use Rattle.khe_instance.specs.declared.parts.EventInfo.{EventInfo}
use Rattle.khe_instance.specs.declared.parts.Parts.{Parts}
use Rattle.khe_instance.specs.declared.parts.Place.{Place}
use Rattle.khe_instance.specs.declared.states.Meet.{Meet}
use Rattle.khe_instance.specs.declared.states.Plain.{Plain}
use Rattle.khe_instance.specs.declared.states.Task.{Task}
use Rattle.xhstt_completion.specs.Causes.{first_cause, used_by}
use Rattle.xhstt_completion.specs.Entries.{entries_of, duration_of, start_of, resource_of, role_of}
use Rattle.xhstt_completion.specs.declared.faults.Cause.{Cause}
use Rattle.xhstt_completion.specs.declared.faults.SolutionFault.{SolutionFault}
use Rattle.xhstt_completion.specs.declared.faults.SolutionFault.TheVariants.{Invalid, NoMemory}
use Rattle.xhstt_shape.specs.declared.records.RawEntry.{RawEntry}
use Rattle.xhstt_shape.specs.declared.records.RawGiven.{RawGiven}
use Rattle.xhstt_shape.specs.declared.records.RawSolution.{RawSolution}

-- a part of an event, which becomes one meet: how long it lasts, when it starts, and the resources
-- that are given for it
pub record Part : Type 0 where
  pub duration : ℕ
  pub start : Option TimeId
  pub given : List RawGiven

-- the part that an entry says
abbrev pub part_of : Parts → EventInfo → RawEntry → Part
part_of p event entry = record {
  duration = duration_of event entry;
  start = start_of p event entry;
  given =
      entry.resources;
}

-- where the entries of an event fall short of its duration, one more part lasts so long, at the
-- preassigned time if there is one
abbrev pub missing_parts : EventInfo → ℕ → List Part
missing_parts event missing = if missing == 0 then [] else record
    { duration = missing; start = event.fixed; given = [] } ∷ []

-- the parts of an event with a number: its entries in order, and what they miss
abbrev pub event_parts : Parts → List RawEntry → ℕ × EventInfo → List Part
event_parts p entries (e, event) = map (part_of p event) (entries_of p e entries)
    ++ missing_parts event (event.duration - used_by p e event entries)

-- the resource that is given for a role
abbrev pub given_for : Parts → List RawGiven → List ℕ → Option ResourceId
given_for p given role = option_and_then (resource_of p) (find (λ one. is_role role (role_of one)) given)

-- the resource at a place: the preassigned one, or else that which is given for the place's role
abbrev pub resource_at : Parts → List RawGiven → Place → Option ResourceId
resource_at p given place = option_or place.fixed (option_and_then (given_for p given) place.role)

-- the meet of a part in a slot
abbrev pub meet_of : ℕ → ℕ × Part → Meet
meet_of e (slot, part) = record {
  meet = record { 0 = slot };
  event = record { 0 = e };
  duration = part.duration;
  start = part.start;
}

-- the task at a place of the meet in a slot
abbrev pub task_of : Parts → ℕ → List RawGiven → ℕ × Place → Task
task_of p slot given (k, place) = record {
  task = record { meet = record { 0 = slot }; place = k };
  resource =
      resource_at p given place;
}

-- the tasks of a part in a slot: one for each place of its event
abbrev pub tasks_of : Parts → EventInfo → ℕ × Part → List Task
tasks_of p event (slot, part) = map (task_of p slot part.given) (enumerate_from 0 event.places)

-- the parts of an event in its slots, from the first on
abbrev pub slotted_parts : Parts → List RawEntry → ℕ × EventInfo → List (ℕ × Part)
slotted_parts p entries (e, event) = enumerate_from event.first_meet (event_parts p entries (e, event))

-- the meets and the tasks of an event
abbrev pub meets_at : Parts → List RawEntry → ℕ × EventInfo → List Meet
meets_at p entries (e, event) = map (meet_of e) (slotted_parts p entries (e, event))

abbrev pub tasks_at : Parts → List RawEntry → ℕ × EventInfo → List Task
tasks_at p entries (e, event) = flat_map (tasks_of p event) (slotted_parts p entries (e, event))

-- the state that entries say: events in order, with all monitors attached and no groups
abbrev pub state_of : Parts → List RawEntry → Plain
state_of p entries = record {
  meets = flat_map (meets_at p entries) (enumerate_from 0 p.events);
  tasks = flat_map (tasks_at p entries) (enumerate_from 0 p.events);
  detached = [];
  groups = [];
}

-- the state, unless there is a cause
abbrev pub unless : Option Cause → Plain → Result Plain Cause
unless None state = Ok state
unless (Some cause) state = Err cause

-- the completed state of a solution, or the first cause for which it is invalid
abbrev pub completed : Parts → RawSolution → Result Plain Cause
completed p raw = unless (first_cause p [] raw.events) (state_of p raw.events)

-- the cause that an error tells, unless memory was refused
abbrev pub told : SolutionFault → Option Cause
told (Invalid cause entry) = Some (record { cause = cause; entry = entry })
told NoMemory = None

-- an error tells the cause of the definition
abbrev pub IsFaultOf : Result Plain Cause → SolutionFault → Type 0
IsFaultOf answer error = Tells told (λ cause. answer ≡ Err cause) error
