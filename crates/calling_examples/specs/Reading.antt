-- What a caller knows of an archive that it read: the one that the bytes spell, its first fault, and the totals of a
-- solution.
use Rattle.std.specs.Prelude.{ℕ, ◌≡◌, Some, Ok, List, slice_get}
use Rattle.calling_examples.specs.declared.faults.ReadFault.{ReadFault}
use Rattle.calling_examples.specs.declared.faults.ReadFault.TheVariants as told
use Rattle.khe_base.specs.declared.sums.Totals.{Totals}
use Rattle.khe_instance.specs.Evaluated.{totals}
use Rattle.khe_instance.specs.declared.parts.Parts.{Parts}
use Rattle.khe_instance.specs.declared.states.Plain.{Plain}
use Rattle.xhstt_completion.specs.Completed.{completed}
use Rattle.xhstt_completion.specs.Numbered.{parts_at}
use Rattle.xhstt_references.specs.References.{solutions_of}
use Rattle.xhstt_resolve.specs.declared.resolving.Resolved.{Resolved}
use Rattle.xhstt_shape.specs.Shape.{shape_of}
use Rattle.xhstt_shape.specs.declared.records.Archive.{Archive}
use Rattle.xhstt_shape.specs.declared.records.RawSolution.{RawSolution}
use Rattle.xhstt_text.specs.Document.{Spelled}
use Rattle.xhstt_text.specs.FirstFault.{IsFirstFault}
use Rattle.xhstt_text.specs.Forest.{Forest}
use Rattle.xhstt_text.specs.declared.faults.TextFault.{TextFault}
use Rattle.xhstt_text.specs.declared.faults.TextFault.TheVariants.{Bad, NoMemory}

-- the bytes spell one tree, and it is this archive's
pub record IsArchiveOf (bytes : List ℕ) (a : Archive) : Type 0 where
  pub tree : Forest
  pub spelled : Spelled bytes tree
  pub only : (t : Forest) → Spelled bytes t → tree ≡ t
  pub shape : shape_of tree ≡ Ok a

-- where a text leaves the grammar, it is told where it does so first
abbrev pub IsTextFaultOf : List ℕ → TextFault → Type 0
IsTextFaultOf bytes (Bad kind at) = IsFirstFault bytes kind at
IsTextFaultOf bytes NoMemory = Unit {0}

abbrev pub IsToldOf : List ℕ → ReadFault → Type 0
IsToldOf bytes (told.Text fault) = IsTextFaultOf bytes fault
IsToldOf bytes _ = Unit {0}

-- the solution with a number is there, it completes, and these are the totals of what it completes to
pub record AreTotalsOf (a : Archive) (r : Resolved) (number : ℕ) (t : Totals) : Type 0 where
  pub raw : RawSolution
  pub found : slice_get (solutions_of a) number ≡ Some raw
  pub parts : Parts
  pub instance : parts_at r number ≡ Some parts
  pub plain : Plain
  pub completes : completed parts raw ≡ Ok plain
  pub totals_are : t ≡ totals parts plain
