-- A timetable with its meets in the first slots of their events: what its entries say when they are read.
use Rattle.std.specs.Prelude.{ℕ, ◌==◌, List, [], map}
use Rattle.std.specs.List.{filter, flat_map, enumerate_from}
use Rattle.khe_instance.specs.Running.{meets_of}
use Rattle.khe_instance.specs.declared.parts.EventInfo.{EventInfo}
use Rattle.khe_instance.specs.declared.parts.Parts.{Parts}
use Rattle.khe_instance.specs.declared.states.Meet.{Meet}
use Rattle.khe_instance.specs.declared.states.Plain.{Plain}
use Rattle.khe_instance.specs.declared.states.Task.{Task}

-- the meets of an event, in the order of their numbers, each with its new slot: from the event's first on
abbrev pub slotted : Plain → ℕ × EventInfo → List (ℕ × Meet)
slotted s (e, event) = enumerate_from event.first_meet (meets_of e s.meets)

-- the meets of all events, in the order of events
abbrev pub in_order : Parts → Plain → List (ℕ × Meet)
in_order p s = flat_map (slotted s) (enumerate_from 0 p.events)

-- a meet in its new slot
abbrev pub meet_in : ℕ × Meet → Meet
meet_in (slot, m) = record m { meet = record { 0 = slot } }

-- a task of the meet in this slot, at the same place and with the same resource
abbrev pub task_in : ℕ → Task → Task
task_in slot t = record { task = record { meet = record { 0 = slot }; place = t.task.place }; resource = t.resource }

-- the tasks of a meet in its new slot
abbrev pub tasks_in : List Task → ℕ × Meet → List Task
tasks_in ts (slot, m) = map (task_in slot) (filter (λ t. t.task.meet.0 == m.meet.0) ts)

-- the same meets and tasks, in the first slots of their events; all monitors attached, and no groups
abbrev pub renumbered : Parts → Plain → Plain
renumbered p s = record {
  meets = map meet_in (in_order p s);
  tasks = flat_map (tasks_in s.tasks) (in_order p s);
  detached = [];
  groups = [];
}
