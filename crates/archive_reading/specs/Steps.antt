-- What the steps of reading an archive answer, and how that leads to the archive's reading.
use Rattle.std.specs.Prelude.{ℕ, ◌≡◌, ◌⊎◌, List, Ok, Err}
use Rattle.archive_reading.specs.Reading.{IsFaulty, IsReadingOf, evaluable, refused}
use Rattle.archive_reading.specs.declared.reading.Unread.{Unread}
use Rattle.archive_reading.specs.declared.reading.Unread.TheVariants.{Refused, NoMemory}
use Rattle.archive_reading.specs.declared.refusals.Refusal.TheVariants.{Fault, Limit}
use Rattle.xhstt_resolve.specs.declared.faults.ResolveFault.{ResolveFault}
use Rattle.xhstt_resolve.specs.declared.faults.ResolveFault.TheVariants as resolve
use Rattle.xhstt_resolve.specs.declared.resolving.Resolved.{Resolved}
use Rattle.xhstt_shape.specs.Shape.{shape_of}
use Rattle.xhstt_shape.specs.declared.faults.ShapeFault.{ShapeFault}
use Rattle.xhstt_shape.specs.declared.faults.ShapeFault.TheVariants as shape
use Rattle.xhstt_shape.specs.declared.records.Archive.{Archive}
use Rattle.xhstt_text.specs.Document.{Spelled}
use Rattle.xhstt_text.specs.Forest.{Forest}
use Rattle.xhstt_text.specs.declared.faults.TextFault.{TextFault}
use Rattle.xhstt_text.specs.declared.faults.TextFault.TheVariants as text

-- a fault of each step as a reason not to read
abbrev pub of_text : TextFault → Unread
of_text (text.Bad kind at) = Refused (Fault kind at)
of_text text.NoMemory = NoMemory

abbrev pub of_shape : ShapeFault → Unread
of_shape (shape.Bad kind at) = Refused (Fault kind at)
of_shape shape.NoMemory = NoMemory

abbrev pub of_resolve : ResolveFault → Unread
of_resolve (resolve.Bad kind at) = Refused (Fault kind at)
of_resolve (resolve.Limit which value) = Refused (Limit which value)
of_resolve resolve.NoMemory = NoMemory

-- the bytes spell a tree with this archive
pub record IsTree (bytes : List ℕ) (a : Archive) : Type 0 where
  pub tree : Forest
  pub spelled : Spelled bytes tree
  pub shape : shape_of tree ≡ Ok a

-- the bytes spell a tree with this fault
pub record IsBadTree (bytes : List ℕ) (kind at : ℕ) : Type 0 where
  pub tree : Forest
  pub spelled : Spelled bytes tree
  pub shape : shape_of tree ≡ Err (shape.Bad kind at)

-- the bytes have a fault of their text or of the shape of their tree, or memory ran out
abbrev pub IsStoppedTree : List ℕ → Unread → Type 0
IsStoppedTree bytes (Refused (Fault kind at)) = IsFaulty bytes (refused (Fault kind at)) ⊎ IsBadTree bytes kind at
IsStoppedTree bytes (Refused _) = ⊥
IsStoppedTree bytes NoMemory = Unit {0}

-- the bytes are refused for this reason, or memory ran out
abbrev pub IsStopped : List ℕ → Unread → Type 0
IsStopped bytes (Refused refusal) = IsReadingOf bytes (refused refusal)
IsStopped bytes NoMemory = Unit {0}

-- the bytes spell no tree with an archive, unless memory ran out
abbrev pub IsUnshaped : List ℕ → Unread → Type 0
IsUnshaped bytes (Refused refusal) = (t : Forest) (a : Archive) → Spelled bytes t → shape_of t ≡ Ok a → ⊥
IsUnshaped bytes NoMemory = Unit {0}

-- no archive is read from the bytes, unless memory ran out
abbrev pub IsUnread : List ℕ → Unread → Type 0
IsUnread bytes (Refused refusal) = (a : Archive) (r : Resolved) → IsReadingOf bytes (evaluable a r) → ⊥
IsUnread bytes NoMemory = Unit {0}
