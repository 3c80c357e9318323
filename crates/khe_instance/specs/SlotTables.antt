-- The tables in memory of which event has a meet slot and with which task slot an event's tasks begin.
use Rattle.std.specs.Prelude.{ℕ, ◌+◌, ◌*◌, ◌≡◌, ◌≤◌, ◌<◌, List, map, take, length, get_or}
use Rattle.std.specs.List.{sum_by, range_with_len}
use Rattle.khe_instance.specs.Slots.{slots_from}
use Rattle.khe_instance.specs.declared.parts.EventInfo.{EventInfo}
use Rattle.khe_instance.specs.declared.slots.SlotTable.{SlotTable}
use Rattle.khe_instance.specs.declared.slots.TaskTable.{TaskTable}

-- how many tasks n events have that come first
abbrev pub tasks_before : List EventInfo → ℕ → ℕ
tasks_before events e = sum_by (λ x. x.duration * length x.places) (take e events)

-- where the tasks of each event begin, and how many there are
pub record AreTasks (events : List EventInfo) (table : TaskTable) : Type 0 where
  pub firsts_are : table.firsts.items ≡ map (tasks_before events) (range_with_len 0 (length events))
  pub count_is : table.count ≡ sum_by (λ x. x.duration * length x.places) events

pub record IsSlotTable (events : List EventInfo) (table : SlotTable) : Type 0 where
  pub slots_are : table.events.items ≡ slots_from 0 events
  pub tasks_are : AreTasks events table.tasks

-- this is where the last of ascending numbers stands that is at most n
pub record IsLastUpTo (numbers : List ℕ) (n : ℕ) (i : ℕ) : Type 0 where
  pub within : i < length numbers
  pub from : (d : ℕ) → get_or numbers i d ≤ n
  pub to : (d : ℕ) → i + 1 < length numbers → n < get_or numbers (i + 1) d
