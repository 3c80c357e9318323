-- A state of the engine: slots, which monitors are attached, and the groups. For each of the sixteen edits its
-- refusal, the state after it, the number that it makes and its changes.
use Rattle.std.specs.Prelude.{ℕ, ◌≡◌, Bool, true, false, if◌then◌else◌, Option, List, []}
use Rattle.khe_instance.specs.declared.parts.Parts.{Parts}
use Rattle.khe_told.specs.declared.changes.Change.{Change}
use Rattle.khe_told.specs.declared.edits.Back.{Back}
use Rattle.khe_told.specs.declared.edits.Back.TheVariants.{By, Cut, Make, Insert}
use Rattle.khe_told.specs.declared.edits.Edit.{Edit}
use Rattle.khe_told.specs.declared.edits.Edit.TheVariants.{Attach, Detach}
use Rattle.khe_told.specs.declared.refusals.Refusal.{Refusal}
use Rattle.khe_told.specs.declared.slots.Slot.{Slot}
use Rattle.khe_solution.specs.Backs as backs
use Rattle.khe_solution.specs.Changing as changing
use Rattle.khe_solution.specs.Editing as editing
use Rattle.khe_solution.specs.Refusing as refusing
use Rattle.monitor_graph.specs.Boards.{Board, Grouping, grouping_of}
use Rattle.monitor_graph.specs.Edits as groups

-- the meets and tasks, and which monitors are attached and how they are grouped
pub record State : Type 0 where
  pub slots : List Slot
  pub grouping : Grouping

abbrev pub state_of : List Slot → Board → State
state_of slots b = record { slots = slots; grouping = grouping_of b }

-- a graph keeps all but the deviations
pub record HaveSameGroups (a b : Board) : Type 0 where
  pub grouping : grouping_of a ≡ grouping_of b
  pub marked : a.marked ≡ b.marked
  pub seats : a.seats ≡ b.seats

-- why an edit is refused, if it is
unfoldable pub refusal : Parts → State → Edit → Option Refusal
refusal p s e = if groups.is_of_groups e then groups.refusal s.grouping e else refusing.refusal p s.slots e

-- the state that an accepted edit leaves
unfoldable pub edited : State → Edit → State
edited s e = if groups.is_of_groups e then record s { grouping = groups.edited s.grouping e } else record s
    { slots = editing.edited s.slots e }

-- the number of the meet or the group that it makes, if any
unfoldable pub made : State → Edit → Option ℕ
made s e = if groups.is_of_groups e then groups.made s.grouping e else editing.made s.slots e

-- the changes of the meets and tasks that it consists of
unfoldable pub changes : State → Edit → List Change
changes s e = if groups.is_of_groups e then [] else changing.changes s.slots e

-- an edit attaches or detaches a monitor, as no other does
abbrev pub attaches : Edit → Bool
attaches (Attach m) = true
attaches (Detach m) = true
attaches _ = false

-- a record leads back from an edit of monitors and groups
abbrev pub is_back_of_groups : Back → Bool
is_back_of_groups (By e) = groups.is_of_groups e
is_back_of_groups (Cut first cut second) = false
is_back_of_groups (Make g) = true
is_back_of_groups (Insert g m k) = true

-- the state that a record leads back to
unfoldable pub undone : State → Back → State
undone s b = if is_back_of_groups b then record s { grouping = groups.undone s.grouping b } else record s
    { slots = backs.undone s.slots b }

-- the changes of the edit that a record undoes, seen from the state after that edit
unfoldable pub undone_changes : State → Back → List Change
undone_changes s b = if is_back_of_groups b then [] else backs.undone_changes s.slots b
