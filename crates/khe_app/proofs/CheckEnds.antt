-- How a run ends that writes an archive in its canonical spelling.
use Rattle.std.proofs.Common.{ℕ, ◌≡◌, Bool, List, [], Option, Some, None, IfSome, sym, subst, refl}
use Rattle.std.proofs.Common.{encode_utf8_all}
use Rattle.std.specs.Str.{IsUtf8, chars}
use Rattle.std.proofs.lemmas.Str.{encodes-chars}
use Rattle.khe_io.specs.Shelf.{IsMissing}
use Rattle.reading_commands.specs.Answers.{reading_of, IsAnswerOf, IsReadyAnswer}
use Rattle.khe_app.specs.Ends.{IsEnd, LacksOf}
use Rattle.reading_commands.specs.Ends.{Holdings, Written}
use Rattle.khe_app.specs.Outcome.{IsOutcomeOf}
use Rattle.reading_commands.specs.Outcome.{IsSpellingTo, spelling_of, status_of}
use Rattle.archive_reading.specs.Refusals.{refusal_line}
use Rattle.command_words.specs.Words.{checking}
use Rattle.reading_commands.specs.declared.answers.Answer.{Answer}
use Rattle.reading_commands.specs.declared.answers.Answer.TheVariants.{Read, Refused}
use Rattle.khe_app.proofs.EndsLemmas.{end_written, not_four, status-decided}
use Rattle.xhstt_shape.specs.WellFormed.{IsWellFormed}
use Rattle.xhstt_shape.specs.declared.records.Archive.{Archive}
use Rattle.xhstt_writer.specs.Archives.{canonical}
use Rattle.xhstt_writer.proofs.Written.{canonical_spells}

-- the canonical spelling of a well-formed archive is UTF-8
pub canonical_utf8 : (a : Archive) → IsWellFormed a → IsUtf8 (canonical a)
canonical_utf8 a w = let read = canonical_spells a w in read.2.1.0

-- a text that the bytes of an answer spell
text_spelled : (answer : Answer) → IsReadyAnswer answer
    → (text : List ℕ) × (encode_utf8_all text ≡ spelling_of (reading_of answer))
text_spelled (Read r) ready = (
  chars (canonical r.archive),
  encodes-chars (canonical r.archive)
      (canonical_utf8 r.archive ready.well_formed),
)
text_spelled (Refused refusal) ready = (refusal_line refusal, refl)

respelled : (h : Holdings) (name : List ℕ) (answer : Answer) (text : List ℕ)
    → IfSome h (λ under. IsAnswerOf (under name) answer)
    → encode_utf8_all text ≡ spelling_of (reading_of answer)
    → IfSome h (λ under. IsOutcomeOf (Some (checking name)) under (status_of (reading_of answer)) text)
respelled None name answer text is e = tt
respelled (Some under) name answer text is e = by (under name) is
  where
    by : (o : Option (List ℕ)) → IsAnswerOf o answer → IsSpellingTo o (status_of (reading_of answer)) text
    by None none = absurd none
    by (Some bytes) reading = record { reading = reading_of answer; is = reading; status_is = refl; bytes_are = e }

respelled-there : (h : Holdings) (name : List ℕ) (answer : Answer) → IfSome h (λ under. IsAnswerOf (under name) answer)
    → LacksOf (Some (checking name)) h → ⊥
respelled-there None name answer is l = l
respelled-there (Some under) name answer is l = by (under name) is l
  where
    by : (o : Option (List ℕ)) → IsAnswerOf o answer → IsSpellingTo o 4 [] → ⊥
    by None none to = none
    by (Some bytes) reading to = not_four to.reading to.status_is

pub check_lacks : (h : Holdings) (name : List ℕ) → IsMissing h name → LacksOf (Some (checking name)) h
check_lacks None name m = m
check_lacks (Some under) name m = subst (λ o. IsSpellingTo o 4 []) (sym m) (refl, refl)

pub end_respelled : (h : Holdings) (name : List ℕ) (answer : Answer) (sound : Bool) (shelf shelf2 : ℕ)
    (before after : Option (List ℕ)) (sink sink2 result : ℕ)
    → IfSome h (λ under. IsAnswerOf (under name) answer) → IsReadyAnswer answer
    → Written before after sink sink2 (spelling_of (reading_of answer)) (status_of (reading_of answer)) result
    → IsEnd (Some (checking name)) h sound shelf shelf2 before after sink sink2 result
end_respelled h name answer sound shelf shelf2 before after sink sink2 result is ready written =
    let spelled = text_spelled answer ready in
    end_written (Some (checking name)) h sound shelf shelf2 before after sink sink2 spelled.0
    (status_of (reading_of answer)) result
    (respelled h name answer spelled.0 is spelled.1) (status-decided (reading_of answer))
    (subst (λ bytes. Written before after sink sink2 bytes (status_of (reading_of answer)) result) (sym spelled.1)
    written)
    (λ s l. respelled-there h name answer is l)
