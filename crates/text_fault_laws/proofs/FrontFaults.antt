-- What some text begins with has no fault that lasts.
use Rattle.std.proofs.Common.{◌≡◌, ℕ, List, [], ◌++◌, Ok, Err, sym, ◌∙◌, ap, inl, inr}
use Rattle.xhstt_text.specs.declared.faults.TextFault.TheVariants.{Bad}
use Rattle.fault_tables.specs.declared.faults.TheConstants.{NOT_UTF8, BAD_MARKUP}
use Rattle.xhstt_text.specs.Document.{table}
use Rattle.xhstt_text.specs.Machine.{beginning, outcome_of, Outcome}
use Rattle.xhstt_text.specs.FirstFault.{IsFirstFault}
use Rattle.xhstt_text.proofs.Complete.{run_document}
use Rattle.xhstt_text.proofs.Lasting.{lasts}
use Rattle.text_fault_laws.specs.Fronts.{IsFront}

-- such a fault would be one of the whole text
pub no_other : (bytes : List ℕ) (kind at : ℕ) → IsFront bytes → IsFirstFault bytes kind at → (kind ≡ NOT_UTF8 → ⊥)
    → (kind ≡ BAD_MARKUP → ⊥) → ⊥
no_other bytes kind at front (inl f) n m = n f.0
no_other bytes kind at (more, d, h, same) (inr f) n m =
    let fault : outcome_of (bytes ++ more) ≡ Err (Bad kind at) =
    lasts bytes beginning (record { frames = []; nodes = []; attributes = [] }) 0 kind at more m f.1 in
    let whole : Outcome = Ok (table d) in
    let k : whole ≡ Err (Bad kind at) = sym (run_document d h) ∙ ap outcome_of (sym same) ∙ fault in cc
