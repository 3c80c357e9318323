-- What the bytes of an archive lead to, by the rows of faults and by what the grammar says that each text means.
use Rattle.std.specs.Prelude.{ℕ, ◌≡◌, ◌<◌, ◌≤◌, ◌⊎◌, ◌↔◌, Some, List, length}
use Rattle.khe_base.specs.Text.{text_of}
use Rattle.khe_base.specs.declared.limits.TheConstants.{ARCHIVE_BYTES}
use Rattle.text_fault_laws.specs.Rows.{IsLeastFault}
use Rattle.archive_reading.specs.Reading.{IsShaped, Reading, refused}
use Rattle.archive_reading.specs.declared.refusals.Refusal.TheVariants.{Fault, TooLarge}
use Rattle.xhstt_shape.specs.Shape.{shape_of}
use Rattle.xhstt_text.specs.Document.{Content, Spelled, Value}
use Rattle.xhstt_text.specs.Forest.{Forest}
use Rattle.xhstt_text.specs.Spans.{IsAttributeIn, IsElementIn}
use Rattle.xhstt_text.specs.Unescape.{IsTextOf, IsValueOf, meaning, unescaped, value_meaning}

-- by the grammar, the bytes between two tags mean this text
abbrev pub IsMeaning : List ℕ → List ℕ → Type 0
IsMeaning span said = (c : Content) × IsTextOf span c × (text_of (meaning c) ≡ Some said)

-- and the bytes between two quotes mean it
abbrev pub IsValueMeaning : List ℕ → List ℕ → Type 0
IsValueMeaning span said =
    (quote : ℕ) × (v : Value) × IsValueOf quote span v × (text_of (value_meaning v) ≡ Some said)

-- each span of a tree stands for what it means by the grammar, and for nothing else
pub record StandsForMeanings (tree : Forest) : Type 0 where
  pub texts : (span said : List ℕ) → IsElementIn span tree → ((unescaped span ≡ said) ↔ IsMeaning span said)
  pub values : (span said : List ℕ) → IsAttributeIn span tree → ((unescaped span ≡ said) ↔ IsValueMeaning span said)

-- the bytes spell a tree, each span of which stands for what it means, and which leads to this reading
pub record IsSpelledInGrammar (bytes : List ℕ) (reading : Reading) : Type 0 where
  pub tree : Forest
  pub spelled : Spelled bytes tree
  pub means : StandsForMeanings tree
  pub shaped : IsShaped (shape_of tree) reading

-- the bytes have this least fault, which refuses them
pub record IsFaultyByRows (bytes : List ℕ) (reading : Reading) : Type 0 where
  pub kind : ℕ
  pub at : ℕ
  pub least : IsLeastFault bytes kind at
  pub refused_is : reading ≡ refused (Fault kind at)

-- what the bytes of an archive lead to: above the greatest size they are refused unread
abbrev pub IsReadingByRows : List ℕ → Reading → Type 0
IsReadingByRows bytes reading =
    ((ARCHIVE_BYTES < length bytes) × (reading ≡ refused TooLarge))
    ⊎ ((length bytes ≤ ARCHIVE_BYTES) × (IsFaultyByRows bytes reading ⊎ IsSpelledInGrammar bytes reading))
