-- Records of edits, kept for each open mark, stand for whole saved states: each record leads back from the state
-- that the later ones lead to.
use Rattle.std.specs.Prelude.{ℕ, ◌≡◌, ◌+◌, Bool, true, false, List, [], ◌∷◌, ◌++◌, length}
use Rattle.std.specs.List.{sum_by}
use Rattle.khe_instance.specs.declared.parts.Parts.{Parts}
use Rattle.khe_told.specs.Watchers.{watcher_counts}
use Rattle.khe_told.specs.declared.changes.Change.{Change}
use Rattle.khe_told.specs.declared.edits.Back.{Back}
use Rattle.khe_solution.specs.Backs as backs
use Rattle.monitor_graph.specs.Edits as groups
use Rattle.monitor_graph.specs.Groups.{HasSeat}
use Rattle.undo_paths.specs.Stack.{with_record}
use Rattle.khe_engine.specs.States.{State, is_back_of_groups, undone, undone_changes}
use Rattle.khe_engine.specs.Worlds.{Saved}

-- the state that records lead back to, the newest record first, and the changes from there to here
abbrev pub undone_all : State → List Back → State
undone_all s [] = s
undone_all s (b ∷ bs) = undone_all (undone s b) bs

abbrev pub trail_of : State → List Back → List Change
trail_of s [] = []
trail_of s (b ∷ bs) = trail_of (undone s b) bs ++ undone_changes s b

-- the saved states that the records of all marks stand for
abbrev pub saved_of : State → List (List Back) → List Saved
saved_of s [] = []
saved_of s (bs ∷ rest) = record { state = undone_all s bs; trail = trail_of s bs; records = length bs } ∷ saved_of
    (undone_all s bs) rest

-- a record leads back from a state, with room for n children at each group number
abbrev pub LeadsBy : Bool → Parts → List ℕ → State → Back → Type 0
LeadsBy true p seats s b = groups.CanUndo s.grouping b
    × (groups.inserts_child b ≡ true → HasSeat s.grouping.groups seats (groups.inserts_to b))
LeadsBy false p seats s b = backs.LeadsBack p s.slots b

abbrev pub Leads : Parts → List ℕ → State → Back → Type 0
Leads p seats s b = LeadsBy (is_back_of_groups b) p seats s b

-- each record of a mark leads back from where those after it lead to, and so for all marks
abbrev pub AllLead : Parts → List ℕ → State → List Back → Type 0
AllLead p seats s [] = Unit {0}
AllLead p seats s (b ∷ bs) = Leads p seats s b × AllLead p seats (undone s b) bs

abbrev pub MarksLead : Parts → List ℕ → State → List (List Back) → Type 0
MarksLead p seats s [] = Unit {0}
MarksLead p seats s (bs ∷ rest) = AllLead p seats s bs × MarksLead p seats (undone_all s bs) rest

-- an edit with these changes led from one state to another, and its record is kept if a mark is open
pub record IsRecorded (p : Parts) (seats : List ℕ) (cs : List Change) (s s2 : State) (since since2 : List (List Back)) : Type
    0 where
  pub back : Back
  pub kept : since2 ≡ with_record back since
  pub leads : Leads p seats s2 back
  pub before : undone s2 back ≡ s
  pub list : undone_changes s2 back ≡ cs

-- how many records there are
abbrev pub records : List (List Back) → ℕ
records since = sum_by length since

-- how many watchers the changes have that are undone with records
abbrev pub undo_cost : Parts → State → List Back → ℕ
undo_cost p s [] = 0
undo_cost p s (b ∷ bs) = watcher_counts p (undone s b).slots (undone_changes s b) + undo_cost p (undone s b) bs
