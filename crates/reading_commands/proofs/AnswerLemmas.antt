-- What stands under a name leads to the answer.
use Rattle.std.proofs.Common.{ℕ, List, Some, None, IfSome, sym, subst}
use Rattle.khe_io.specs.Shelf.{StandsUnder}
use Rattle.reading_commands.specs.Answers.{reading_of, IsAnswerOf, IsOnlyAnswerOf}
use Rattle.reading_commands.specs.Ends.{Holdings}
use Rattle.archive_reading.specs.Reading.{IsReadingOf}
use Rattle.reading_commands.specs.declared.answers.Answer.{Answer}

-- what stands under a name leads to the answer
pub stands-answer : (h : Holdings) (name bytes : List ℕ) (answer : Answer) → StandsUnder h name bytes
    → IsReadingOf bytes (reading_of answer) → IfSome h (λ under. IsAnswerOf (under name) answer)
stands-answer None name bytes answer stands is = tt
stands-answer (Some under) name bytes answer stands is = subst (λ o. IsAnswerOf o answer) (sym stands) is

pub stands-only : (h : Holdings) (name bytes : List ℕ) (answer : Answer) → StandsUnder h name bytes
    → IsOnlyAnswerOf (Some bytes) answer → IfSome h (λ under. IsOnlyAnswerOf (under name) answer)
stands-only None name bytes answer stands is = tt
stands-only (Some under) name bytes answer stands is = subst (λ o. IsOnlyAnswerOf o answer) (sym stands) is
