-- What is held of an archive between reading and writing.
use Rattle.std.specs.Prelude.{ℕ, ◌≡◌, Option, Some, None, List}
use Rattle.archive_reading.specs.Reading.{Reading, evaluable, refused, IsReadingOf}
use Rattle.archive_reading.specs.Ready.{IsReady}
use Rattle.xhstt_resolve.specs.declared.resolving.Resolved.{Resolved}
use Rattle.xhstt_shape.specs.declared.records.Archive.{Archive}
use Rattle.reading_commands.specs.declared.answers.Answer.{Answer}
use Rattle.reading_commands.specs.declared.answers.Answer.TheVariants.{Read, Refused}

abbrev pub reading_of : Answer → Reading
reading_of (Read r) = evaluable r.archive r.resolved
reading_of (Refused refusal) = refused refusal

-- the answer is that of the bytes, which stand there, and these have no other
abbrev pub IsAnswerOf : Option (List ℕ) → Answer → Type 0
IsAnswerOf None answer = ⊥
IsAnswerOf (Some bytes) answer = IsReadingOf bytes (reading_of answer)

abbrev pub IsOnlyAnswerOf : Option (List ℕ) → Answer → Type 0
IsOnlyAnswerOf None answer = ⊥
IsOnlyAnswerOf (Some bytes) (Read r) = (x : Reading) → IsReadingOf bytes x → x ≡ evaluable r.archive r.resolved
IsOnlyAnswerOf (Some bytes) (Refused refusal) = (a : Archive) (r : Resolved) → IsReadingOf bytes (evaluable a r) → ⊥

-- where there is a report to write, its solutions have their instances
abbrev pub IsReadyAnswer : Answer → Type 0
IsReadyAnswer (Read r) = IsReady r.archive r.resolved
IsReadyAnswer (Refused refusal) = Unit {0}
