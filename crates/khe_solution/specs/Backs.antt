-- The record of an edit, the slots that it leads back to, and the changes that undo the edit.
use Rattle.std.specs.Prelude.{ℕ, ◌≡◌, true, Some, None, List, [], ◌++◌}
use Rattle.std.specs.Option.{option_map_or}
use Rattle.khe_base.specs.declared.numbers.MeetId.{MeetId}
use Rattle.khe_base.specs.declared.numbers.ResourceId.{ResourceId}
use Rattle.khe_base.specs.declared.numbers.TimeId.{TimeId}
use Rattle.khe_instance.specs.declared.parts.Parts.{Parts}
use Rattle.khe_told.specs.Slots.{slot_at, length_of, start_of}
use Rattle.khe_told.specs.declared.slots.Slot.{Slot}
use Rattle.khe_told.specs.declared.changes.Change.{Change}
use Rattle.khe_told.specs.declared.edits.Edit.{Edit}
use Rattle.khe_told.specs.declared.edits.Edit.TheVariants.{Assign, Unassign, MoveTo, Split, Merge, SwapMeets, Give}
use Rattle.khe_told.specs.declared.edits.Edit.TheVariants.{Take, Regive, SwapTasks}
use Rattle.khe_told.specs.declared.edits.Back.{Back}
use Rattle.khe_told.specs.declared.edits.Back.TheVariants.{By, Cut}
use Rattle.khe_solution.specs.Reading.{resource_at, free_slot}
use Rattle.khe_solution.specs.Refusing.{is_of_meets, refusal}
use Rattle.khe_solution.specs.Editing.{edited, cut_at}
use Rattle.khe_solution.specs.Changing.{lifts, places, takes, gives, cutting, joining, whole, first_part, second_part}
use Rattle.khe_solution.specs.Changing.{joined}
use Rattle.khe_told.specs.Valid.{AreValid}

-- the record that leads back from an edit, by the slots before it
unfoldable pub back_of : List Slot → Edit → Back
back_of s (Assign m t) = By (Unassign m)
back_of s (Unassign m) = option_map_or (λ (t : TimeId). By (Assign m t)) (start_of (slot_at s m.0)) (By (Unassign m))
back_of s (MoveTo m t) = option_map_or (λ (u : TimeId). By (MoveTo m u)) (start_of (slot_at s m.0)) (By (MoveTo m t))
back_of s (Split m cut) = By (Merge m (record { 0 = free_slot s (slot_at s m.0).event.0 }))
back_of s (Merge a b) = Cut a (length_of (slot_at s a.0)) b
back_of s (Give t r) = By (Take t)
back_of s (Take t) = option_map_or (λ (r : ResourceId). By (Give t r)) (resource_at s t) (By (Take t))
back_of s (Regive t r) = option_map_or (λ (q : ResourceId). By (Regive t q)) (resource_at s t) (By (Regive t r))
back_of s e = By e

-- the slots that a record leads back to
unfoldable pub undone : List Slot → Back → List Slot
undone s (By e) = edited s e
undone s (Cut a cut b) = cut_at s a.0 cut b.0
undone s _ = s

-- the changes of a Split and of a Merge, seen from the slots after it
abbrev pub split_changes : List Slot → MeetId → MeetId → List Change
split_changes s a b = let x = slot_at s a.0 in let y = slot_at s b.0 in
    cutting x.given (joined a x y) (whole a x) (whole b y)

abbrev pub merge_changes : List Slot → MeetId → ℕ → MeetId → List Change
merge_changes s a cut b = let x = slot_at s a.0 in
    joining x.given (first_part a x cut) (second_part b x cut) (whole a x)

-- the changes of the edit that a record undoes, seen from the slots after that edit
unfoldable pub undone_changes : List Slot → Back → List Change
undone_changes s (By (Unassign m)) = places m (start_of (slot_at s m.0))
undone_changes s (By (Assign m t)) = lifts m (Some t)
undone_changes s (By (MoveTo m t)) = lifts m (Some t) ++ places m (start_of (slot_at s m.0))
undone_changes s (By (Merge a b)) = split_changes s a b
undone_changes s (By (SwapMeets a b)) =
    let t = start_of (slot_at s a.0) in
    let u = start_of (slot_at s b.0) in
    lifts a u ++ (lifts b t ++ (places a t ++ places b u))
undone_changes s (By (Take t)) = gives t (resource_at s t)
undone_changes s (By (Give t r)) = takes t (Some r)
undone_changes s (By (Regive t r)) = takes t (Some r) ++ gives t (resource_at s t)
undone_changes s (By (SwapTasks a b)) =
    let q = resource_at s a in
    let r = resource_at s b in
    takes a r ++ (takes b q ++ (gives a q ++ gives b r))
undone_changes s (Cut a cut b) = merge_changes s a cut b
undone_changes s _ = []

-- the record leads back from these slots: an edit that was not refused made them
pub record LeadsBack (p : Parts) (s : List Slot) (b : Back) : Type 0 where
  pub edit : Edit
  pub ours : is_of_meets edit ≡ true
  pub accepted : refusal p (undone s b) edit ≡ None
  pub valid : AreValid p (undone s b)
  pub record_ : b ≡ back_of (undone s b) edit
  pub slots : s ≡ edited (undone s b) edit
