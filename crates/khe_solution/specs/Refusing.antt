-- The causes for which each edit of meets and tasks is refused, in order. An edit is refused for the first that
-- holds.
use Rattle.std.specs.Prelude.{ℕ, ◌==◌, Bool, true, false, not, ◌&&◌, nat_le, if◌then◌else◌, Option, Some, None, is_none}
use Rattle.std.specs.Prelude.{is_some, Result, Ok, Err, List, [], ◌∷◌, length}
use Rattle.khe_base.specs.declared.numbers.MeetId.{MeetId}
use Rattle.khe_base.specs.declared.numbers.ResourceId.{ResourceId}
use Rattle.khe_base.specs.declared.numbers.TaskId.{TaskId}
use Rattle.khe_base.specs.declared.numbers.TimeId.{TimeId}
use Rattle.khe_instance.specs.declared.parts.Parts.{Parts}
use Rattle.khe_told.specs.Slots.{slot_at, length_of, is_live, start_of, given_at}
use Rattle.khe_told.specs.declared.slots.Slot.{Slot}
use Rattle.khe_told.specs.declared.edits.Edit.{Edit}
use Rattle.khe_told.specs.declared.edits.Edit.TheVariants.{Assign, Unassign, MoveTo, Split, Merge, SwapMeets, Give}
use Rattle.khe_told.specs.declared.edits.Edit.TheVariants.{Take, Regive, SwapTasks}
use Rattle.khe_told.specs.declared.refusals.Refusal.{Refusal}
use Rattle.khe_told.specs.declared.refusals.Refusal.TheVariants.{NoSuchMeet, NoSuchTask, NoSuchTime, NoSuchResource}
use Rattle.khe_told.specs.declared.refusals.Refusal.TheVariants.{Fixed, AlreadyAssigned, NotAssigned, OffEnd, WrongType}
use Rattle.khe_told.specs.declared.refusals.Refusal.TheVariants.{BadCut, OtherEvent, NotAdjacent, TasksDiffer, Same}
use Rattle.khe_instance.specs.Lookups.{place_at}
use Rattle.khe_solution.specs.Reading.{is_placed, has_place, is_fixed_event, is_fixed_place, has_type, may_have}
use Rattle.khe_solution.specs.Reading.{runs_over, would_run_over, is_time, same_time, is_resource, same_resource}
use Rattle.khe_solution.specs.Reading.{same_given, follows}

-- the first of these refusals whose test holds
abbrev pub first_refusal : List (Bool × Refusal) → Option Refusal
first_refusal [] = None
first_refusal ((test, r) ∷ rest) = if test then Some r else first_refusal rest

abbrev pub assign_row : Parts → List Slot → MeetId → TimeId → List (Bool × Refusal)
assign_row p s m t = let x = slot_at s m.0 in (
    (not (is_live x), NoSuchMeet) ∷ (nat_le (length p.times) t.0, NoSuchTime) ∷ (is_fixed_event p x.event.0, Fixed)
    ∷ (is_placed x, AlreadyAssigned) ∷ (runs_over p t.0 (length_of x), OffEnd) ∷ [])

abbrev pub unassign_row : Parts → List Slot → MeetId → List (Bool × Refusal)
unassign_row p s m = let x = slot_at s m.0 in (
    (not (is_live x), NoSuchMeet) ∷ (is_fixed_event p x.event.0, Fixed) ∷ (not (is_placed x), NotAssigned) ∷ [])

abbrev pub move_row : Parts → List Slot → MeetId → TimeId → List (Bool × Refusal)
move_row p s m t = let x = slot_at s m.0 in (
    (not (is_live x), NoSuchMeet) ∷ (nat_le (length p.times) t.0, NoSuchTime) ∷ (is_fixed_event p x.event.0, Fixed)
    ∷ (not (is_placed x), NotAssigned) ∷ (is_time t.0 (start_of x), Same) ∷ (
      runs_over p t.0 (length_of x),
      OffEnd,
    ) ∷ [])

abbrev pub split_row : Parts → List Slot → MeetId → ℕ → List (Bool × Refusal)
split_row p s m cut = let x = slot_at s m.0 in (
    (not (is_live x), NoSuchMeet) ∷ (is_fixed_event p x.event.0, Fixed) ∷ (cut == 0, BadCut) ∷ (
      nat_le (length_of x)
          cut,
      BadCut,
    ) ∷ [])

abbrev pub merge_row : List Slot → MeetId → MeetId → List (Bool × Refusal)
merge_row s a b = let x = slot_at s a.0 in let y = slot_at s b.0 in (
    (not (is_live x), NoSuchMeet) ∷ (not (is_live y), NoSuchMeet) ∷ (a.0 == b.0, Same) ∷ (
      not (x.event.0 == y.event.0),
      OtherEvent,
    )
    ∷ (not (follows (start_of x) (length_of x) (start_of y)), NotAdjacent) ∷ (
      not (same_given x.given y.given),
      TasksDiffer,
    ) ∷ [])

abbrev pub swap_meets_row : Parts → List Slot → MeetId → MeetId → List (Bool × Refusal)
swap_meets_row p s a b = let x = slot_at s a.0 in let y = slot_at s b.0 in (
    (not (is_live x), NoSuchMeet) ∷ (not (is_live y), NoSuchMeet) ∷ (
      is_fixed_event p x.event.0,
      Fixed,
    ) ∷ (is_fixed_event p y.event.0, Fixed)
    ∷ (not (is_placed x), NotAssigned) ∷ (not (is_placed y), NotAssigned) ∷ (a.0 == b.0, Same) ∷ (
      same_time (start_of x)
          (start_of y),
      Same,
    )
    ∷ (would_run_over p (start_of y) (length_of x), OffEnd) ∷ (
      would_run_over p (start_of x) (length_of y),
      OffEnd,
    ) ∷ [])

abbrev pub give_row : Parts → List Slot → TaskId → ResourceId → List (Bool × Refusal)
give_row p s t r = let x = slot_at s t.meet.0 in (
    (not (has_place x t.place), NoSuchTask) ∷ (nat_le (length p.resources) r.0, NoSuchResource) ∷ (
      is_fixed_place p
          x.event.0 t.place,
      Fixed,
    )
    ∷ (is_some (given_at x t.place), AlreadyAssigned) ∷ (
      not (has_type p r.0 (place_at p.events x.event.0 t.place)),
      WrongType,
    ) ∷ [])

abbrev pub take_row : Parts → List Slot → TaskId → List (Bool × Refusal)
take_row p s t = let x = slot_at s t.meet.0 in (
    (not (has_place x t.place), NoSuchTask) ∷ (is_fixed_place p x.event.0 t.place, Fixed) ∷ (
      is_none
          (given_at x t.place),
      NotAssigned,
    ) ∷ [])

abbrev pub regive_row : Parts → List Slot → TaskId → ResourceId → List (Bool × Refusal)
regive_row p s t r = let x = slot_at s t.meet.0 in (
    (not (has_place x t.place), NoSuchTask) ∷ (nat_le (length p.resources) r.0, NoSuchResource) ∷ (
      is_fixed_place p
          x.event.0 t.place,
      Fixed,
    )
    ∷ (is_none (given_at x t.place), NotAssigned) ∷ (is_resource r.0 (given_at x t.place), Same)
    ∷ (not (has_type p r.0 (place_at p.events x.event.0 t.place)), WrongType) ∷ [])

abbrev pub same_task : TaskId → TaskId → Bool
same_task a b = (a.meet.0 == b.meet.0) && (a.place == b.place)

abbrev pub swap_tasks_row : Parts → List Slot → TaskId → TaskId → List (Bool × Refusal)
swap_tasks_row p s a b = let x = slot_at s a.meet.0 in let y = slot_at s b.meet.0 in (
    (not (has_place x a.place), NoSuchTask) ∷ (not (has_place y b.place), NoSuchTask)
    ∷ (is_fixed_place p x.event.0 a.place, Fixed) ∷ (is_fixed_place p y.event.0 b.place, Fixed)
    ∷ (is_none (given_at x a.place), NotAssigned) ∷ (is_none (given_at y b.place), NotAssigned)
    ∷ (same_task a b, Same) ∷ (same_resource (given_at x a.place) (given_at y b.place), Same)
    ∷ (not (may_have p (given_at y b.place) (place_at p.events x.event.0 a.place)), WrongType)
    ∷ (not (may_have p (given_at x a.place) (place_at p.events y.event.0 b.place)), WrongType) ∷ [])

-- the ten edits of meets and tasks
abbrev pub is_of_meets : Edit → Bool
is_of_meets (Assign m t) = true
is_of_meets (Unassign m) = true
is_of_meets (MoveTo m t) = true
is_of_meets (Split m cut) = true
is_of_meets (Merge a b) = true
is_of_meets (SwapMeets a b) = true
is_of_meets (Give t r) = true
is_of_meets (Take t) = true
is_of_meets (Regive t r) = true
is_of_meets (SwapTasks a b) = true
is_of_meets _ = false

-- the table of refusals; the edits of monitors and groups have theirs where these are kept
unfoldable pub refusal : Parts → List Slot → Edit → Option Refusal
refusal p s (Assign m t) = first_refusal (assign_row p s m t)
refusal p s (Unassign m) = first_refusal (unassign_row p s m)
refusal p s (MoveTo m t) = first_refusal (move_row p s m t)
refusal p s (Split m cut) = first_refusal (split_row p s m cut)
refusal p s (Merge a b) = first_refusal (merge_row s a b)
refusal p s (SwapMeets a b) = first_refusal (swap_meets_row p s a b)
refusal p s (Give t r) = first_refusal (give_row p s t r)
refusal p s (Take t) = first_refusal (take_row p s t)
refusal p s (Regive t r) = first_refusal (regive_row p s t r)
refusal p s (SwapTasks a b) = first_refusal (swap_tasks_row p s a b)
refusal p s _ = None

-- what a check answers
abbrev pub checked : Option Refusal → Result (Unit {0}) Refusal
checked None = Ok tt
checked (Some r) = Err r
