-- What the bytes of an archive lead to: an archive with its instances, or why it is refused.
use Rattle.std.specs.Prelude.{ℕ, ◌≡◌, ◌<◌, ◌≤◌, ◌⊎◌, Result, Ok, Err, List, length}
use Rattle.khe_base.specs.declared.limits.TheConstants.{ARCHIVE_BYTES}
use Rattle.archive_reading.specs.declared.refusals.Refusal.{Refusal}
use Rattle.archive_reading.specs.declared.refusals.Refusal.TheVariants.{Fault, Limit, TooLarge}
use Rattle.xhstt_resolve.specs.Resolved.{resolved}
use Rattle.xhstt_resolve.specs.declared.faults.ResolveFault.{ResolveFault}
use Rattle.xhstt_resolve.specs.declared.faults.ResolveFault.TheVariants as resolve
use Rattle.xhstt_resolve.specs.declared.resolving.Resolved.{Resolved}
use Rattle.xhstt_shape.specs.Shape.{shape_of}
use Rattle.xhstt_shape.specs.declared.faults.ShapeFault.{ShapeFault}
use Rattle.xhstt_shape.specs.declared.faults.ShapeFault.TheVariants as shape
use Rattle.xhstt_shape.specs.declared.records.Archive.{Archive}
use Rattle.xhstt_text.specs.Document.{Spelled}
use Rattle.xhstt_text.specs.FirstFault.{IsFirstFault}
use Rattle.xhstt_text.specs.Forest.{Forest}

-- an archive is read, with its instances; or refused
pub data Reading : Type 0 where
  evaluable : Archive → Resolved → Reading
  refused : Refusal → Reading

-- a fault of references or a limit refuses an archive; want of memory is no fault of one
abbrev pub IsRead : Archive → Result Resolved ResolveFault → Reading → Type 0
IsRead a (Ok r) reading = reading ≡ evaluable a r
IsRead a (Err (resolve.Bad kind at)) reading = reading ≡ refused (Fault kind at)
IsRead a (Err (resolve.Limit which value)) reading = reading ≡ refused (Limit which value)
IsRead a (Err resolve.NoMemory) reading = ⊥

-- a fault of the shape refuses an archive
abbrev pub IsShaped : Result Archive ShapeFault → Reading → Type 0
IsShaped (Ok a) reading = IsRead a (resolved a) reading
IsShaped (Err (shape.Bad kind at)) reading = reading ≡ refused (Fault kind at)
IsShaped (Err shape.NoMemory) reading = ⊥

-- the bytes spell a tree that leads to this reading
pub record IsSpelled (bytes : List ℕ) (reading : Reading) : Type 0 where
  pub tree : Forest
  pub spelled : Spelled bytes tree
  pub shaped : IsShaped (shape_of tree) reading

-- the bytes have a fault of the text, which refuses them
pub record IsFaulty (bytes : List ℕ) (reading : Reading) : Type 0 where
  pub kind : ℕ
  pub at : ℕ
  pub first : IsFirstFault bytes kind at
  pub refused_is : reading ≡ refused (Fault kind at)

-- what the bytes of an archive lead to: above the greatest size they are refused unread
abbrev pub IsReadingOf : List ℕ → Reading → Type 0
IsReadingOf bytes reading =
    ((ARCHIVE_BYTES < length bytes) × (reading ≡ refused TooLarge))
    ⊎ ((length bytes ≤ ARCHIVE_BYTES) × (IsFaulty bytes reading ⊎ IsSpelled bytes reading))
