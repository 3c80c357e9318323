-- States that stand: what an engine may hold.
use Rattle.std.specs.Prelude.{ℕ, ◌≡◌, None, List, [], ◌∷◌, length}
use Rattle.khe_engine.specs.Openings.{IsStateOf}
use Rattle.khe_engine.specs.States.{State, edited, refusal}
use Rattle.khe_engine.specs.Worlds.{Saved, around, closed, fresh, from_mark, grown, last_saved}
use Rattle.khe_instance.specs.States.{IsValid}
use Rattle.khe_instance.specs.WellMade.{AreWellMade}
use Rattle.khe_instance.specs.declared.parts.Parts.{Parts}
use Rattle.khe_instance.specs.declared.states.Plain.{Plain}
use Rattle.khe_told.specs.Valid.{AreValid}
use Rattle.khe_told.specs.declared.changes.Change.{Change}
use Rattle.khe_told.specs.declared.edits.Edit.{Edit}
use Rattle.monitor_graph.specs.Groups.{AreGroups}

-- the slots are those of a timetable that stands whole; each monitor is attached or not; and each child of a
-- group is a monitor, which stands in the group once
pub record Stands (p : Parts) (s : State) : Type 0 where
  pub slots : AreValid p s.slots
  pub attached : length s.grouping.attached ≡ length p.monitors
  pub groups : AreGroups (length p.monitors) s.grouping.groups

-- the state that an engine is opened with stands
abbrev pub OpenedStatesStand : Type 0
OpenedStatesStand = (p : Parts) (plain : Plain) (s : State) → AreWellMade p → IsValid p plain → IsStateOf p plain s
    → Stands p s

-- and so does the one after each edit that is accepted
abbrev pub EditsKeepStanding : Type 0
EditsKeepStanding = (p : Parts) (s : State) (e : Edit) → Stands p s → refusal p s e ≡ None → Stands p (edited s e)

-- the states that were saved at marks stand
abbrev pub SavedStand : Parts → List Saved → Type 0
SavedStand p [] = Unit {0}
SavedStand p (x ∷ xs) = Stands p x.state × SavedStand p xs

-- where a state and the states saved at the marks stand, so do the states that are saved after an accepted
-- edit, and after a mark is opened and closed
abbrev pub MarksKeepStanding : Type 0
MarksKeepStanding = (p : Parts) (s : State) (xs : List Saved) → Stands p s → SavedStand p xs
    → ((cs : List Change) → SavedStand p (grown cs xs)) × SavedStand p (fresh s ∷ xs) × SavedStand p (closed xs)

-- and so do the state and those saved after all is undone since the innermost mark, or since the one with a number
abbrev pub UndoingKeepsStanding : Type 0
UndoingKeepsStanding = (p : Parts) (s : State) (xs : List Saved) → Stands p s → SavedStand p xs
    → (Stands p (last_saved s xs) × SavedStand p (fresh (last_saved s xs) ∷ around xs))
    × ((k : ℕ) → Stands p (last_saved s (from_mark k xs))
    × SavedStand p (fresh (last_saved s (from_mark k xs)) ∷ around (from_mark k xs)))
