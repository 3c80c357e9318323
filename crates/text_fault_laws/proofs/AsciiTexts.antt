-- The first fault of a text of ASCII bytes, as the machine ends in it.
use Rattle.std.proofs.Common.{◌≡◌, ℕ, Bool, true, ◌&&◌, ltb, List, [], ◌∷◌, Err, inr}
use Rattle.std.proofs.lemmas.Bool.{and_parts, ltb-true}
use Rattle.std.proofs.lemmas.Str.{IsUtf8-from_ascii}
use Rattle.std.proofs.lemmas.Str.Ascii.{IsAscii-nil, IsAscii-cons}
use Rattle.std.specs.Str.{IsAscii}
use Rattle.xhstt_text.specs.Machine.{outcome_of}
use Rattle.xhstt_text.specs.declared.faults.TextFault.TheVariants.{Bad}
use Rattle.text_fault_laws.specs.Rows.{IsLeastFault}
use Rattle.text_fault_laws.proofs.FirstRow.{first_least}

abbrev pub are_ascii : List ℕ → Bool
are_ascii [] = true
are_ascii (b ∷ bs) = ltb b 128 && are_ascii bs

pub ascii : (bytes : List ℕ) → are_ascii bytes ≡ true → IsAscii bytes
ascii [] e = IsAscii-nil
ascii (b ∷ bs) e =
    let parts = and_parts (ltb b 128) (are_ascii bs) e in IsAscii-cons b bs (ltb-true b 128 parts.0) (ascii bs parts.1)

pub by_machine : (bytes : List ℕ) (kind at : ℕ) → are_ascii bytes ≡ true → outcome_of bytes ≡ Err (Bad kind at)
    → IsLeastFault bytes kind at
by_machine bytes kind at plain e = first_least bytes kind at (inr (IsUtf8-from_ascii bytes (ascii bytes plain), e))
