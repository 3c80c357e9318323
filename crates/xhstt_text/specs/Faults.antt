-- A fault of a text is a kind and a place, a byte of the text.
use Rattle.std.specs.Prelude.{ℕ, ◌==◌, if◌then◌else◌, List, [], ◌∷◌}
use Rattle.xhstt_text.specs.declared.faults.TextFault.{TextFault}
use Rattle.xhstt_text.specs.declared.faults.TextFault.TheVariants.{Bad}
use Rattle.fault_tables.specs.declared.faults.TheConstants.{BAD_MARKUP, MISMATCHED_END, BAD_REFERENCE, UNSUPPORTED}
use Rattle.fault_tables.specs.declared.faults.TheConstants.{TOO_DEEP}

-- the byte at this place cannot go on, or the bytes end there too early
abbrev pub bad_markup : ℕ → TextFault
bad_markup at = Bad BAD_MARKUP at

-- the end tag whose `<` stands at this place is whole and has another name than the open element
abbrev pub mismatched_end : ℕ → TextFault
mismatched_end at = Bad MISMATCHED_END at

-- the bytes from the `&` at this place spell no reference
abbrev pub bad_reference : ℕ → TextFault
bad_reference at = Bad BAD_REFERENCE at

-- the `<` at this place begins a document type, a character data section or an instruction, or a `:`
-- stands there straight after a name
abbrev pub unsupported : ℕ → TextFault
unsupported at = Bad UNSUPPORTED at

-- the `<` at this place begins an element inside as many open elements as may be open at once
abbrev pub too_deep : ℕ → TextFault
too_deep at = Bad TOO_DEEP at

-- after the `<` at the first place, a byte at the second that begins no tag and no comment: an
-- instruction begins with `?`
abbrev pub no_tag : ℕ → ℕ → ℕ → TextFault
no_tag place at b = if b == 63 then unsupported place else bad_markup at

-- after the `<!` at the first place, at the second a word begins that only another kind of markup begins
-- with; these letters of it did not come
abbrev pub no_comment : ℕ → ℕ → List ℕ → TextFault
no_comment place at [] = unsupported place
no_comment place at (k ∷ ks) = bad_markup at
