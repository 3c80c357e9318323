-- The status and the text of `evaluate` and of `check`, by what stands under the archive's name.
use Rattle.std.specs.Prelude.{ℕ, ◌≡◌, Bool, Option, Some, None, List, [], encode_utf8_all}
use Rattle.archive_reading.specs.Reading.{Reading, evaluable, refused, IsReadingOf}
use Rattle.archive_reading.specs.Refusals.{refusal_line}
use Rattle.xhstt_writer.specs.Archives.{canonical}
use Rattle.reading_commands.specs.Report.{report}

-- the status and the text of a reading
abbrev pub status_of : Reading → ℕ
status_of (evaluable a r) = 0
status_of (refused refusal) = 3

abbrev pub text_of : Bool → Reading → List ℕ
text_of all (evaluable a r) = report all a r
text_of all (refused refusal) = refusal_line refusal

-- a reading of the bytes with this status and this text
pub record IsAnswered (all : Bool) (bytes : List ℕ) (status : ℕ) (text : List ℕ) : Type 0 where
  pub reading : Reading
  pub is : IsReadingOf bytes reading
  pub status_is : status ≡ status_of reading
  pub text_is : text ≡ text_of all reading

-- what the bytes under the archive's name lead to; where nothing stands there, status 4 and no text
abbrev pub IsAnswerTo : Bool → Option (List ℕ) → ℕ → List ℕ → Type 0
IsAnswerTo all None status text = (status ≡ 4) × (text ≡ [])
IsAnswerTo all (Some bytes) status text = IsAnswered all bytes status text

-- the bytes of a reading: the canonical spelling of an archive that is read, and the line that refuses one
abbrev pub spelling_of : Reading → List ℕ
spelling_of (evaluable a r) = canonical a
spelling_of (refused refusal) = encode_utf8_all (refusal_line refusal)

-- a reading of the bytes with this status, and a text that its bytes spell
pub record IsRespelled (bytes : List ℕ) (status : ℕ) (text : List ℕ) : Type 0 where
  pub reading : Reading
  pub is : IsReadingOf bytes reading
  pub status_is : status ≡ status_of reading
  pub bytes_are : encode_utf8_all text ≡ spelling_of reading

-- what the bytes under the archive's name are respelled as; where nothing stands there, status 4 and no
-- text
abbrev pub IsSpellingTo : Option (List ℕ) → ℕ → List ℕ → Type 0
IsSpellingTo None status text = (status ≡ 4) × (text ≡ [])
IsSpellingTo (Some bytes) status text = IsRespelled bytes status text
