-- What a repair of a solution is written as is a text, and so is what many are.
use Rattle.std.proofs.Common.{ℕ, ◌≡◌, List, ◌++◌, All, encode_utf8_all, ap, ◌∙◌}
use Rattle.std.specs.Str.{IsUtf8, chars}
use Rattle.std.proofs.lemmas.Str.{encodes-append, encodes-chars}
use Rattle.khe_instance.specs.declared.parts.Parts.{Parts}
use Rattle.khe_instance.specs.declared.states.Plain.{Plain}
use Rattle.parallel_repair.specs.declared.answers.Solved.{Solved}
use Rattle.xhstt_completion.specs.Entries.{IsEntry}
use Rattle.xhstt_entries.specs.Spelled.{entries_of}
use Rattle.xhstt_shape.specs.WellFormed.{IsWellFormed}
use Rattle.xhstt_shape.specs.declared.records.Archive.{Archive}
use Rattle.xhstt_writer.specs.Archives.{canonical}
use Rattle.xhstt_writer.proofs.Written.{canonical_spells}
use Rattle.repair_run.specs.Lines.{repair_line, solve_line}
use Rattle.repair_run.specs.Placed.{respelled}
use Rattle.repair_run.specs.Repairs.{repair_bytes}
use Rattle.repair_run.specs.Solves.{solve_bytes}
use Rattle.repair_run.specs.declared.mending.Mended.{Mended}
use Rattle.xhstt_entries.specs.Texts.{HasSpellable}
use Rattle.repair_run.proofs.SpellLaws.{respelled_formed}

utf8 : (a : Archive) → IsWellFormed a → IsUtf8 (canonical a)
utf8 a w = let read = canonical_spells a w in read.2.1.0

-- an archive with a timetable in place of a solution, and a line after it
lined : (a : Archive) → IsWellFormed a → (p : Parts) → HasSpellable p → (n : ℕ) (s : Plain)
    → All (IsEntry p) (entries_of p s) → (line : List ℕ)
    → (text : List ℕ) × (encode_utf8_all text ≡ canonical (respelled a n p s) ++ encode_utf8_all line)
lined a w p h n s is line = let bytes = canonical (respelled a n p s) in (
  chars bytes ++ line,
  encodes-append (chars bytes) line
      ∙ ap (λ xs. xs ++ encode_utf8_all line)
      (encodes-chars bytes (utf8 (respelled a n p s) (respelled_formed a w p h n s is))),
)

pub repair_text : (a : Archive) → IsWellFormed a → (p : Parts) → HasSpellable p → (n : ℕ) (m : Mended)
    → All (IsEntry p) (entries_of p m.plain)
    → (text : List ℕ) × (encode_utf8_all text ≡ repair_bytes a n p m)
repair_text a w p h n m is = lined a w p h n m.plain is (repair_line m.outcome m.totals)

pub solve_text : (a : Archive) → IsWellFormed a → (p : Parts) → HasSpellable p → (n : ℕ) (s : Solved)
    → All (IsEntry p) (entries_of p s.plain)
    → (text : List ℕ) × (encode_utf8_all text ≡ solve_bytes a n p s)
solve_text a w p h n s is = lined a w p h n s.plain is (solve_line s.job s.totals)
