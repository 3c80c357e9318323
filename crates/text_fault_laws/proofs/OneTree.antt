-- What bytes spell is one table.
use Rattle.std.proofs.Common.{◌≡◌, ℕ, List, Ok, sym, ◌∙◌, ap}
use Rattle.xhstt_text.specs.Document.{Document, IsDocument, Rows, Spells, spelling, table}
use Rattle.xhstt_text.specs.Machine.{outcome_of, Outcome}
use Rattle.xhstt_text.proofs.Complete.{run_document}

-- two documents with one spelling have one table
pub same_table : (bytes : List ℕ) (d e : Document) → IsDocument d → IsDocument e → bytes ≡ spelling d
    → bytes ≡ spelling e → table d ≡ table e
same_table bytes d e h k p q =
    let whole : Outcome = Ok (table d) in
    let r : whole ≡ Ok (table e) = sym (run_document d h) ∙ ap outcome_of (sym p ∙ q) ∙ run_document e k in cc

pub one_table : (bytes : List ℕ) (found other : Rows) → Spells bytes found → Spells bytes other → found ≡ other
one_table bytes found other (d, h, p) (e, k, q) =
    p ∙ same_table bytes d e h.1 k.1 h.2 k.2 ∙ sym q
