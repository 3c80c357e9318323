-- Bytes that spell an archive with its instances, the timetable that a solution of it says, and archives that are
-- the same but for one solution.
use Rattle.std.specs.Prelude.{ℕ, ◌≡◌, Some, Ok, List, [], slice_get}
use Rattle.std.specs.Option.{option_map_or}
use Rattle.khe_instance.specs.declared.parts.Parts.{Parts}
use Rattle.khe_instance.specs.declared.states.Plain.{Plain}
use Rattle.repair_run.specs.Placed.{archive_with}
use Rattle.xhstt_completion.specs.Completed.{completed}
use Rattle.xhstt_completion.specs.Numbered.{parts_at}
use Rattle.xhstt_references.specs.References.{solutions_of}
use Rattle.xhstt_resolve.specs.Resolved.{resolved}
use Rattle.xhstt_resolve.specs.declared.resolving.Resolved.{Resolved}
use Rattle.xhstt_shape.specs.Places.{IsSame}
use Rattle.xhstt_shape.specs.Shape.{shape_of}
use Rattle.xhstt_shape.specs.declared.records.Archive.{Archive}
use Rattle.xhstt_shape.specs.declared.records.RawSolution.{RawSolution}
use Rattle.xhstt_text.specs.Document.{Spelled}
use Rattle.xhstt_text.specs.Forest.{Forest}

-- bytes spell an archive, which resolves to these instances
pub record IsArchiveOf (bytes : List ℕ) (a : Archive) (r : Resolved) : Type 0 where
  pub tree : Forest
  pub spelled : Spelled bytes tree
  pub shape : shape_of tree ≡ Ok a
  pub resolved_is : resolved a ≡ Ok r

-- the solution of an archive with this number is one of an instance with these parts, and says this timetable
pub record IsTimetableOf (a : Archive) (r : Resolved) (number : ℕ) (p : Parts) (plain : Plain) : Type 0 where
  pub solution : RawSolution
  pub there : slice_get (solutions_of a) number ≡ Some solution
  pub parts : parts_at r number ≡ Some p
  pub completes : completed p solution ≡ Ok plain

-- an archive in which the solution with this number has no entries
abbrev pub blank : RawSolution → RawSolution
blank raw = record raw { events = [] }

abbrev pub emptied : ℕ → Archive → Archive
emptied number a = option_map_or (λ raw. archive_with (blank raw) number a) (slice_get (solutions_of a) number) a

-- two archives are the same but for the entries of the solution with this number
abbrev pub IsSameBut : ℕ → Archive → Archive → Type 0
IsSameBut number a b = IsSame (emptied number a) (emptied number b)
