-- The slots after an accepted edit of meets and tasks. A cut divides a meet between its slot and the event's lowest
-- free one; a merge writes both durations in the first slot and frees the second.
use Rattle.std.specs.Prelude.{ℕ, ◌+◌, ◌-◌, Option, Some, None, Result, Ok, Err, List, slice_set}
use Rattle.std.specs.Option.{option_map}
use Rattle.khe_base.specs.declared.numbers.MeetId.{MeetId}
use Rattle.khe_base.specs.declared.numbers.ResourceId.{ResourceId}
use Rattle.khe_base.specs.declared.numbers.TaskId.{TaskId}
use Rattle.khe_base.specs.declared.numbers.TimeId.{TimeId}
use Rattle.khe_told.specs.Slots.{slot_at, length_of, emptied, start_of}
use Rattle.khe_told.specs.declared.slots.Slot.{Slot}
use Rattle.khe_told.specs.declared.slots.Span.{Span}
use Rattle.khe_told.specs.declared.edits.Edit.{Edit}
use Rattle.khe_told.specs.declared.edits.Edit.TheVariants.{Assign, Unassign, MoveTo, Split, Merge, SwapMeets, Give}
use Rattle.khe_told.specs.declared.edits.Edit.TheVariants.{Take, Regive, SwapTasks}
use Rattle.khe_told.specs.declared.refusals.Refusal.{Refusal}
use Rattle.khe_solution.specs.Reading.{resource_at, free_slot}

-- a slot whose meet has this start, and one of which a place is given this
abbrev pub with_start : Slot → Option TimeId → Slot
with_start x t = record x { span = option_map (λ (y : Span). record y { start = t }) x.span }

abbrev pub with_resource : Slot → ℕ → Option ResourceId → Slot
with_resource x k r = record x { given = slice_set x.given k r }

-- the slots where a meet has this start, and where a task has this resource
abbrev pub timed : List Slot → MeetId → Option TimeId → List Slot
timed s m t = slice_set s m.0 (with_start (slot_at s m.0) t)

abbrev pub staffed : List Slot → TaskId → Option ResourceId → List Slot
staffed s t r = slice_set s t.meet.0 (with_resource (slot_at s t.meet.0) t.place r)

-- a slot with another meet
abbrev pub with_meet : Slot → ℕ → Option TimeId → List (Option ResourceId) → Slot
with_meet x d t given = record x { span = Some (record { duration = d; start = t }); given = given }

-- a time that is so much later
abbrev pub later : ℕ → Option TimeId → Option TimeId
later n t = option_map (λ (s : TimeId). record { 0 = s.0 + n }) t

-- a meet that is cut, where the rest goes into this slot
abbrev pub cut_at : List Slot → ℕ → ℕ → ℕ → List Slot
cut_at s m cut n =
    let x = slot_at s m in
    slice_set (slice_set s n (with_meet (slot_at s n) (length_of x - cut) (later cut (start_of x)) x.given)) m
    (with_meet x cut (start_of x) x.given)

-- two meets that are joined in the slot of the first
abbrev pub joined_at : List Slot → ℕ → ℕ → List Slot
joined_at s m n =
    let x = slot_at s m in
    slice_set (slice_set s n (emptied (slot_at s n))) m
    (with_meet x (length_of x + length_of (slot_at s n)) (start_of x) x.given)

unfoldable pub edited : List Slot → Edit → List Slot
edited s (Assign m t) = timed s m (Some t)
edited s (Unassign m) = timed s m None
edited s (MoveTo m t) = timed s m (Some t)
edited s (Split m cut) = cut_at s m.0 cut (free_slot s (slot_at s m.0).event.0)
edited s (Merge a b) = joined_at s a.0 b.0
edited s (SwapMeets a b) = timed (timed s a (start_of (slot_at s b.0))) b (start_of (slot_at s a.0))
edited s (Give t r) = staffed s t (Some r)
edited s (Take t) = staffed s t None
edited s (Regive t r) = staffed s t (Some r)
edited s (SwapTasks a b) = staffed (staffed s a (resource_at s b)) b (resource_at s a)
edited s _ = s

-- the number of the meet that an edit makes
unfoldable pub made : List Slot → Edit → Option ℕ
made s (Split m cut) = Some (free_slot s (slot_at s m.0).event.0)
made s _ = None

-- an edit's answer
abbrev pub answer : Option Refusal → Option ℕ → Result (Option ℕ) Refusal
answer None n = Ok n
answer (Some r) n = Err r
