-- What a matching of a solution is written as is a text, and its choice is certified.
use Rattle.std.proofs.Common.{ℕ, ◌≡◌, List, ◌++◌, All, encode_utf8_all, ap, sym, ◌∙◌, length}
use Rattle.std.specs.Str.{IsUtf8, chars}
use Rattle.std.proofs.lemmas.Str.{encodes-append, encodes-chars}
use Rattle.khe_instance.specs.declared.parts.Parts.{Parts}
use Rattle.khe_instance.specs.declared.states.Plain.{Plain}
use Rattle.repair_run.specs.Placed.{respelled}
use Rattle.xhstt_entries.specs.Texts.{HasSpellable}
use Rattle.repair_run.proofs.SpellLaws.{respelled_formed}
use Rattle.resource_match.specs.Choices.{IsCertified}
use Rattle.resource_match.specs.declared.choices.Costs.{Costs}
use Rattle.time_match.specs.Costs.{costs_in}
use Rattle.time_match.specs.Matching.{costs_at}
use Rattle.xhstt_completion.specs.Entries.{IsEntry}
use Rattle.xhstt_entries.specs.Spelled.{entries_of}
use Rattle.xhstt_shape.specs.WellFormed.{IsWellFormed}
use Rattle.xhstt_shape.specs.declared.records.Archive.{Archive}
use Rattle.xhstt_writer.specs.Archives.{canonical}
use Rattle.xhstt_writer.proofs.Written.{canonical_spells}
use Rattle.match_run.specs.Fitting.{FitsLists}
use Rattle.match_run.specs.Found.{IsFound}
use Rattle.match_run.specs.Lines.{match_lines}
use Rattle.match_run.specs.Texts.{match_bytes}
use Rattle.match_run.specs.declared.finding.Found.{Found}

utf8 : (a : Archive) → IsWellFormed a → IsUtf8 (canonical a)
utf8 a w = let read = canonical_spells a w in read.2.1.0

pub match_text : (a : Archive) → IsWellFormed a → (p : Parts) → HasSpellable p → (n : ℕ) (f : Found)
    → All (IsEntry p) (entries_of p f.plain)
    → (text : List ℕ) × (encode_utf8_all text ≡ match_bytes a n p f)
match_text a w p h n f is =
    let bytes = canonical (respelled a n p f.plain) in
    let lines = match_lines f.matched f.totals in (
      chars bytes ++ lines,
      encodes-append (chars bytes) lines
          ∙ ap (λ xs. xs ++ encode_utf8_all lines)
          (encodes-chars bytes (utf8 (respelled a n p f.plain) (respelled_formed a w p h n f.plain is))),
    )

-- the costs that the choice is certified for
pub certified_for : (p : Parts) (plain : Plain) (time rtype : ℕ) (f : Found) → IsFound p plain time rtype f
    → (c : Costs) × FitsLists f.matched c × IsCertified c f.matched.cheapest
unfolding costs_in
certified_for p plain time rtype f is = (
  costs_at p is.state time rtype,
  record {
    tasks = sym (ap length is.matched_is.tasks);
    resources = sym (ap length is.matched_is.resources);
  },
  is.matched_is.certified,
)
