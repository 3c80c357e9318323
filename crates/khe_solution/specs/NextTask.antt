-- Tasks in the order of their numbers, by meet and then by place, and the first of them from a task
-- on that has a resource or has none.
use Rattle.std.specs.Prelude.{◌≡◌, ◌<◌, ◌≤◌, ◌⊎◌, Bool, true, false, ◌&&◌, Option, List, MatchOption}
use Rattle.khe_base.specs.declared.numbers.ResourceId.{ResourceId}
use Rattle.khe_base.specs.declared.numbers.TaskId.{TaskId}
use Rattle.khe_told.specs.Slots.{slot_at}
use Rattle.khe_told.specs.declared.slots.Slot.{Slot}
use Rattle.khe_solution.specs.Reading.{has_place, resource_at, same_resource}

-- a task comes before another; and it is the other or comes after it
abbrev pub IsBefore : TaskId → TaskId → Type 0
IsBefore a b = (a.meet.0 < b.meet.0) ⊎ ((a.meet.0 ≡ b.meet.0) × (a.place < b.place))

abbrev pub IsFrom : TaskId → TaskId → Type 0
IsFrom a b = (a.meet.0 < b.meet.0) ⊎ ((a.meet.0 ≡ b.meet.0) × (a.place ≤ b.place))

-- whether the task is there and has this resource, or has none where none is wanted
abbrev pub has_task : List Slot → Option ResourceId → TaskId → Bool
has_task s wanted t = has_place (slot_at s t.meet.0) t.place && same_resource wanted (resource_at s t)

-- the first such task from one on, or none where there is none
abbrev pub IsNextTask : List Slot → Option ResourceId → TaskId → Option TaskId → Type 0
IsNextTask s wanted from result = MatchOption result
    ((u : TaskId) → IsFrom from u → has_task s wanted u ≡ false)
    (λ t. IsFrom from t × (has_task s wanted t ≡ true)
    × ((u : TaskId) → IsFrom from u → IsBefore u t → has_task s wanted u ≡ false))
