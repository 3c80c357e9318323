-- The first fault of bytes: NotUtf8 at the first byte that is no part of a character, wherever it stands; else the
-- fault that ends the reading from left to right. It is proved to be the least row of the table of faults.
use Rattle.std.specs.Prelude.{ℕ, List, ◌++◌, ◌≡◌, ◌⊎◌, Err}
use Rattle.std.specs.Str.{IsUtf8, IsValidUpTo}
use Rattle.xhstt_text.specs.Document.{Document, IsSpellingOf}
use Rattle.xhstt_text.specs.Machine.{outcome_of}
use Rattle.xhstt_text.specs.declared.faults.TextFault.TheVariants.{Bad}
use Rattle.fault_tables.specs.declared.faults.TheConstants.{NOT_UTF8, BAD_MARKUP}

-- the bytes have a fault, and this is the kind and the place of the first: the place of the first byte
-- that is no part of a well-formed character, wherever it stands; where all are UTF-8, the fault that
-- ends the reading from left to right
abbrev pub IsFirstFault : List ℕ → ℕ → ℕ → Type 0
IsFirstFault bytes kind at =
    ((kind ≡ NOT_UTF8) × IsValidUpTo bytes at) ⊎ (IsUtf8 bytes × (outcome_of bytes ≡ Err (Bad kind at)))

-- the bytes spell a text
abbrev pub IsText : List ℕ → Type 0
IsText bytes = (d : Document) × IsSpellingOf bytes d

-- the bytes have a fault
abbrev pub HasFault : List ℕ → Type 0
HasFault bytes = (kind : ℕ) × (at : ℕ) × IsFirstFault bytes kind at

-- whatever bytes follow, a fault of another kind than these two stays the first
abbrev pub HasLastingFaults : List ℕ → Type 0
HasLastingFaults bytes =
    (kind at : ℕ) (more : List ℕ) → (kind ≡ NOT_UTF8 → ⊥) → (kind ≡ BAD_MARKUP → ⊥) → IsFirstFault bytes kind at
    → IsUtf8 (bytes ++ more) → IsFirstFault (bytes ++ more) kind at
