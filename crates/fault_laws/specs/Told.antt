-- Readings and outcomes by the rows of faults, and the least fault of bytes, which is told by a line.
use Rattle.std.specs.Prelude.{ℕ, ◌≡◌, ◌≤◌, ◌↔◌, Option, Some, List, length, encode_utf8_all}
use Rattle.khe_base.specs.declared.limits.TheConstants.{ARCHIVE_BYTES}
use Rattle.text_fault_laws.specs.Rows.{IsLeastFault}
use Rattle.khe_app.specs.ByTables.{IsOutcomeByRows, Shelf}
use Rattle.khe_app.specs.Outcome.{IsOutcome, IsOutcomeOf}
use Rattle.khe_app.specs.Readings.{IsReadingByRows}
use Rattle.archive_reading.specs.Reading.{IsReadingOf, Reading}
use Rattle.archive_reading.specs.Refusals.{refusal_line}
use Rattle.command_words.specs.Words.{Asked, archive_of, asked}
use Rattle.archive_reading.specs.declared.refusals.Refusal.TheVariants.{Fault}
use Rattle.xhstt_text.specs.Document.{Spelled}
use Rattle.xhstt_text.specs.Forest.{Forest}

-- status 3, and the bytes of the line for this fault
abbrev pub IsFaultLine : ℕ → ℕ → ℕ → List ℕ → Type 0
IsFaultLine kind at status text =
    (status ≡ 3) × (encode_utf8_all text ≡ encode_utf8_all (refusal_line (Fault kind at)))

-- that line for the least fault of the bytes
pub record TellsLeastFault (bytes : List ℕ) (status : ℕ) (text : List ℕ) : Type 0 where
  pub kind : ℕ
  pub at : ℕ
  pub least : IsLeastFault bytes kind at
  pub line : IsFaultLine kind at status text

-- the words ask for something that is made of an archive, whose name has these bytes under it
pub record Reads (words : List (List ℕ)) (under : Shelf) (bytes : List ℕ) : Type 0 where
  pub name : List ℕ
  pub named : archive_of (asked words) ≡ Some name
  pub stands : under name ≡ Some bytes
  pub few : length bytes ≤ ARCHIVE_BYTES

abbrev pub ReadingsAreByRows : Type 0
ReadingsAreByRows = (bytes : List ℕ) (reading : Reading) → (IsReadingOf bytes reading ↔ IsReadingByRows bytes reading)

abbrev pub OutcomesAreByRows : Type 0
OutcomesAreByRows =
    (a : Asked) (name bytes : List ℕ) (under : Shelf) (status : ℕ) (text : List ℕ) → archive_of (Some a) ≡ Some name
    → under name ≡ Some bytes → (IsOutcomeOf (Some a) under status text ↔ IsOutcomeByRows a bytes under status text)

abbrev pub FaultsAreTold : Type 0
FaultsAreTold =
    (words : List (List ℕ)) (under : Shelf) (bytes : List ℕ) (status : ℕ) (text : List ℕ) (kind at : ℕ)
    → Reads words under bytes → IsOutcome words under status text → IsLeastFault bytes kind at
    → IsFaultLine kind at status text

abbrev pub TextsAreByRows : Type 0
TextsAreByRows =
    (words : List (List ℕ)) (under : Shelf) (bytes : List ℕ) (status : ℕ) (text : List ℕ) → Reads words under bytes
    → IsOutcome words under status text → ((tree : Forest) → Spelled bytes tree → ⊥)
    → TellsLeastFault bytes status text
