-- The first fault of a text whose last byte no character has.
use Rattle.std.proofs.Common.{◌≡◌, ◌+◌, ℕ, Bool, List, length, take, refl, inl, ap, ◌∙◌, sym, false, arith, take_all}
use Rattle.std.proofs.lemmas.Bool.{both_ways}
use Rattle.std.proofs.lemmas.Str.{is_utf8-from_IsUtf8}
use Rattle.std.specs.Str.{IsUtf8, is_utf8}
use Rattle.fault_tables.specs.declared.faults.TheConstants.{NOT_UTF8}
use Rattle.text_fault_laws.specs.Rows.{IsLeastFault}
use Rattle.text_fault_laws.proofs.FirstRow.{first_least}

-- what stands before the last byte is UTF-8, and with it nothing is
pub broken_last : (bytes : List ℕ) (at : ℕ) → length bytes ≡ at + 1 → IsUtf8 (take at bytes) → is_utf8 bytes ≡ false
    → IsLeastFault bytes NOT_UTF8 at
broken_last bytes at long front not = first_least bytes NOT_UTF8 at (inl (
  refl,
  record {
    short = omega (arith, long);
    front = front;
    longest = λ m more u. both_ways (is_utf8 bytes) not
        (ap is_utf8 (sym (take_all m bytes (omega (arith, long, more)))) ∙ is_utf8-from_IsUtf8 (take m bytes) u);
  },
))
