-- What is true of an edit that is not refused: its changes fit and lead to the edited slots, which are
-- valid; its record leads back, and tells the changes.
use Rattle.std.proofs.Common.{◌≡◌, List}
use Rattle.khe_instance.specs.declared.parts.Parts.{Parts}
use Rattle.khe_told.specs.declared.slots.Slot.{Slot}
use Rattle.khe_told.specs.declared.edits.Edit.{Edit}
use Rattle.khe_solution.specs.Editing.{edited}
use Rattle.khe_solution.specs.Changing.{changes}
use Rattle.khe_solution.specs.Backs.{back_of, undone, undone_changes}
use Rattle.khe_solution.proofs.Stages.{Goes}

pub record Works (p : Parts) (s : List Slot) (e : Edit) : Type 0 where
  pub goes : Goes p s (changes s e) (edited s e)
  pub back : undone (edited s e) (back_of s e) ≡ s
  pub list : undone_changes (edited s e) (back_of s e) ≡ changes s e
