-- Meet slots are numbered over the events, as many for each as its duration. Task slots are numbered by meet slot
-- and then by place of its event.
use Rattle.std.specs.Prelude.{ℕ, ◌+◌, ◌≤◌, ◌<◌, ◌≡◌, Some, List, [], ◌∷◌, ◌++◌, map, take, replicate, slice_get}
use Rattle.std.specs.List.{sum_by, range_with_len}
use Rattle.khe_base.specs.declared.numbers.TaskId.{TaskId}
use Rattle.khe_instance.specs.Lookups.{places_at}
use Rattle.khe_instance.specs.declared.parts.EventInfo.{EventInfo}

-- the event of each slot, of events that are numbered on from this number
abbrev pub slots_from : ℕ → List EventInfo → List ℕ
slots_from e [] = []
slots_from e (event ∷ events) = replicate event.duration e ++ slots_from (e + 1) events

-- the slot with this number is one of the event with this number
abbrev pub HasSlot : List EventInfo → ℕ → ℕ → Type 0
HasSlot events e slot =
    (event : EventInfo) × (slice_get events e ≡ Some event) × (event.first_meet ≤ slot)
    × (slot < event.first_meet + event.duration)

-- the tasks of a meet slot with n places
abbrev pub slot_tasks : ℕ → ℕ → List TaskId
slot_tasks meet places = map (λ k. record { meet = record { 0 = meet }; place = k }) (range_with_len 0 places)

-- the tasks of slots of these events, the slots being numbered on from this number
abbrev pub tasks_from : List EventInfo → ℕ → List ℕ → List TaskId
tasks_from events meet [] = []
tasks_from events meet (e ∷ es) = slot_tasks meet (places_at events e) ++ tasks_from events (meet + 1) es

-- the tasks of all slots, each at its number
abbrev pub all_tasks : List EventInfo → List TaskId
all_tasks events = tasks_from events 0 (slots_from 0 events)

-- the number of the first task of a meet slot: how many places the slots before it have
abbrev pub first_task : List EventInfo → ℕ → ℕ
first_task events meet = sum_by (places_at events) (take meet (slots_from 0 events))
