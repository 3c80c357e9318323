-- The state of a timetable and the timetable of a state, as functions of each other.
use Rattle.std.specs.Prelude.{◌==◌, if◌then◌else◌, Some, List, [], ◌∷◌, map, length, take, drop}
use Rattle.khe_engine.specs.Openings.{grouping_in}
use Rattle.khe_engine.specs.States.{State}
use Rattle.khe_instance.specs.declared.parts.Parts.{Parts}
use Rattle.khe_instance.specs.declared.states.Meet.{Meet}
use Rattle.khe_instance.specs.declared.states.Plain.{Plain}
use Rattle.khe_instance.specs.declared.states.Task.{Task}
use Rattle.khe_told.specs.Lists.{meets_in, tasks_in}
use Rattle.khe_told.specs.Slots.{no_meets}
use Rattle.khe_told.specs.declared.slots.Slot.{Slot}
use Rattle.monitor_graph.specs.Listed.{detached_from, groups_from}

-- a slot with a meet, and with what the first of these tasks are given
abbrev pub with_meet : Slot → Meet → List Task → Slot
with_meet x m ts = record x {
  span = Some (record { duration = m.duration; start = m.start });
  given = map (λ (t : Task). t.resource) (take (length x.given) ts);
}

-- free slots that are filled by meets and their tasks, each in the order of its numbers
unfoldable pub filled : List Slot → List Meet → List Task → List Slot
filled [] ms ts = []
filled (x ∷ s) [] ts = x ∷ filled s [] ts
filled (x ∷ s) (m ∷ ms) ts = if m.meet.0 == x.meet.0 then with_meet x m ts ∷ filled s ms
    (drop (length x.given) ts) else x ∷ filled s (m ∷ ms) ts

-- the state of a timetable
unfoldable pub state_in : Parts → Plain → State
state_in p plain = record { slots = filled (no_meets p) plain.meets plain.tasks; grouping = grouping_in p plain }

-- the timetable of a state
unfoldable pub listed : State → Plain
listed s = record {
  meets = meets_in s.slots;
  tasks = tasks_in s.slots;
  detached = detached_from 0 s.grouping.attached;
  groups = groups_from 0 s.grouping.groups;
}
