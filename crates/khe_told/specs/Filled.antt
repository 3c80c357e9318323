-- The slots of an instance filled with the meets and tasks of a state.
use Rattle.std.specs.Prelude.{◌≡◌, Some, List, map, All}
use Rattle.khe_instance.specs.declared.parts.Parts.{Parts}
use Rattle.khe_instance.specs.declared.states.Meet.{Meet}
use Rattle.khe_instance.specs.declared.states.Task.{Task}
use Rattle.khe_told.specs.Lists.{meets_in, tasks_in}
use Rattle.khe_told.specs.Slots.{IsBareIfFree, emptied, no_meets}
use Rattle.khe_told.specs.declared.slots.Slot.{Slot}

-- a slot with a meet and its tasks
abbrev pub filled : Slot → Meet → List Task → Slot
filled x m ts = record x {
  span = Some (record { duration = m.duration; start = m.start });
  given =
      map (λ t. t.resource) ts;
}

-- the slots are the instance's, and list these meets and tasks
pub record AreFilled (p : Parts) (ms : List Meet) (ts : List Task) (s : List Slot) : Type 0 where
  pub whose : map emptied s ≡ no_meets p
  pub bare : All IsBareIfFree s
  pub meets : meets_in s ≡ ms
  pub tasks : tasks_in s ≡ ts
