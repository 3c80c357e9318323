-- How a told state is stored: a row for each meet slot, and one entry for each task slot.
use Rattle.std.specs.Prelude.{ℕ, ◌≡◌, ◌<◌, ◌+◌, Option, Some, None, List, [], ◌∷◌, take, drop, replicate, slice_set}
use Rattle.khe_base.specs.declared.numbers.ResourceId.{ResourceId}
use Rattle.khe_told.specs.Changes.{span_after}
use Rattle.khe_told.specs.declared.changes.Change.{Change}
use Rattle.khe_told.specs.declared.changes.Change.TheVariants.{Give, Take}
use Rattle.khe_told.specs.declared.rows.Row.{Row}
use Rattle.khe_told.specs.declared.slots.Slot.{Slot}

-- the slot of a row with this number
abbrev pub slot_in : ℕ → List (Option ResourceId) → Row → Slot
slot_in m given r = record {
  meet = record { 0 = m };
  event = r.event;
  span = r.span;
  given =
      take r.places (drop r.first_task given);
}

-- a row is that of the slot with this number
abbrev pub IsRowOf : Row → ℕ → Slot → Type 0
IsRowOf r m x = (x.meet.0 ≡ m) × (x.event ≡ r.event) × (x.span ≡ r.span)

-- the slots of rows that are numbered on from this number
abbrev pub slots_in : ℕ → List Row → List (Option ResourceId) → List Slot
slots_in m [] given = []
slots_in m (r ∷ rs) given = slot_in m given r ∷ slots_in (m + 1) rs given

-- the task slots of each row begin where those of the row before it end, the first ones at this
-- number, and the last ones end at that one
abbrev pub AreInOrder : ℕ → ℕ → List Row → Type 0
AreInOrder next end [] = next ≡ end
AreInOrder next end (r ∷ rs) = (r.first_task ≡ next) × AreInOrder (next + r.places) end rs

-- the row of the meet that a change changes, after it
abbrev pub row_after : Row → Change → Row
row_after r c = record r { span = span_after r.span c }

-- what all task slots are given after a change of the meet whose first task slot is this one
abbrev pub tasks_after : ℕ → List (Option ResourceId) → Change → List (Option ResourceId)
tasks_after first given (Give t r) = slice_set given (first + t.place) (Some r)
tasks_after first given (Take t r) = slice_set given (first + t.place) None
tasks_after first given _ = given

-- the slots of rows while nothing is given
abbrev pub free_slot : ℕ → Row → Slot
free_slot m r = record { meet = record { 0 = m }; event = r.event; span = r.span; given = replicate r.places None }

abbrev pub free_slots : ℕ → List Row → List Slot
free_slots m [] = []
free_slots m (r ∷ rs) = free_slot m r ∷ free_slots (m + 1) rs

-- a task that is given or taken stands in the list of task slots
abbrev pub HasTask : ℕ → ℕ → Change → Type 0
HasTask end first (Give t r) = first + t.place < end
HasTask end first (Take t r) = first + t.place < end
HasTask end first _ = Unit {0}
