-- The table of the faults of bytes, a row for each kind, told by what the bytes spell at a place and what could
-- follow. The first fault is the row at the least place; at one byte Unsupported comes before BadMarkup.
use Rattle.std.specs.Prelude.{ℕ, List, ◌≡◌, ◌⊎◌, ◌≤◌}
use Rattle.std.specs.Str.{IsUtf8, IsValidUpTo}
use Rattle.fault_tables.specs.declared.faults.TheConstants.{NOT_UTF8, BAD_MARKUP, MISMATCHED_END, BAD_REFERENCE}
use Rattle.fault_tables.specs.declared.faults.TheConstants.{UNSUPPORTED, TOO_DEEP}
use Rattle.text_fault_laws.specs.Fronts.{StopsAt, EndsEarly, RepeatsName, MismatchesAt, MisrefersAt, DeepAt, ColonAt}
use Rattle.text_fault_laws.specs.Fronts.{InstructionAt, OtherMarkupAt}

-- a byte that cannot go on, the end of the bytes, or the repeated name of an attribute
abbrev pub IsBad : List ℕ → ℕ → Type 0
IsBad bytes at = StopsAt bytes at ⊎ (EndsEarly bytes at ⊎ RepeatsName bytes at)

-- the `:` after a name, or the `<` of an instruction, a document type or a character data section
abbrev pub IsUnsupported : List ℕ → ℕ → Type 0
IsUnsupported bytes at = ColonAt bytes at ⊎ (InstructionAt bytes at ⊎ OtherMarkupAt bytes at)

-- the rows of bytes that are UTF-8
abbrev pub IsMarkupFault : List ℕ → ℕ → ℕ → Type 0
IsMarkupFault bytes kind at = ((kind ≡ BAD_MARKUP) × IsBad bytes at)
    ⊎ (((kind ≡ MISMATCHED_END) × MismatchesAt bytes at)
    ⊎ (((kind ≡ BAD_REFERENCE) × MisrefersAt bytes at)
    ⊎ (((kind ≡ UNSUPPORTED) × IsUnsupported bytes at)
    ⊎ ((kind ≡ TOO_DEEP) × DeepAt bytes at))))

-- the bytes have a fault of this kind at this place; the rows but the first are asked only of bytes that are UTF-8
abbrev pub IsFaultAt : List ℕ → ℕ → ℕ → Type 0
IsFaultAt bytes kind at =
    ((kind ≡ NOT_UTF8) × IsValidUpTo bytes at) ⊎ (IsUtf8 bytes × IsMarkupFault bytes kind at)

-- at one byte, what is not supported comes before bad markup
abbrev pub ComesBefore : ℕ → ℕ → Type 0
ComesBefore kind other = (kind ≡ UNSUPPORTED) × (other ≡ BAD_MARKUP)

-- no fault stands at an earlier place, and at this one none that comes before it
abbrev pub IsLeastFault : List ℕ → ℕ → ℕ → Type 0
IsLeastFault bytes kind at = IsFaultAt bytes kind at
    × ((other place : ℕ) → IsFaultAt bytes other place → (at ≤ place) × (place ≡ at → ComesBefore other kind → ⊥))
