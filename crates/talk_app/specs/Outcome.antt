-- What a run of `khe-talk` is to write, and the status that it ends with, by the words, by what stands under the
-- names, and by the bytes of the lines that it is given.
use Rattle.std.specs.Prelude.{ℕ, ◌≡◌, Option, Some, None, List, codes, encode_utf8_all}
use Rattle.edit_script.specs.Lines.{lines}
use Rattle.archive_reading.specs.Starting.{Start, barred, begins, start_of}
use Rattle.archive_reading.specs.Reading.{IsReadingOf, Reading, evaluable, refused}
use Rattle.archive_reading.specs.Refusals.{refusal_line}
use Rattle.khe_engine.specs.Openings.{IsStateOf}
use Rattle.khe_engine.specs.States.{State}
use Rattle.khe_instance.specs.declared.parts.Parts.{Parts}
use Rattle.khe_instance.specs.declared.states.Plain.{Plain}
use Rattle.script_run.specs.Plays.{begun}
use Rattle.talk_run.specs.Answers.{archive_bytes}
use Rattle.talk_run.specs.Talks.{talk_bytes}
use Rattle.xhstt_shape.specs.declared.records.Archive.{Archive}
use Rattle.talk_app.specs.Words.{Asked}

-- a talk on a state that lists this timetable: each line is answered, up to the last
pub record IsTalkOn (a : Archive) (number : ℕ) (p : Parts) (plain : Plain) (input : List ℕ) (status : ℕ)
    (bytes : List ℕ) : Type 0 where
  pub state : State
  pub is : IsStateOf p plain state
  pub status_is : status ≡ 0
  pub bytes_are : bytes ≡ talk_bytes (archive_bytes a number p) p (begun state) 1 (lines input)

-- what comes of a start; the line that refuses a solution stands in place of all answers
abbrev pub IsTalkOf : Archive → ℕ → Start → List ℕ → ℕ → List ℕ → Type 0
IsTalkOf a number (begins p plain) input status bytes = IsTalkOn a number p plain input status bytes
IsTalkOf a number (barred refusal) input status bytes =
    (status ≡ 3) × (bytes ≡ encode_utf8_all (refusal_line refusal))

-- what comes of a reading of the archive; and so does the line that refuses the archive
abbrev pub IsTalkIn : ℕ → Reading → List ℕ → ℕ → List ℕ → Type 0
IsTalkIn number (evaluable a r) input status bytes = IsTalkOf a number (start_of a r number) input status bytes
IsTalkIn number (refused refusal) input status bytes =
    (status ≡ 3) × (bytes ≡ encode_utf8_all (refusal_line refusal))

-- a reading of the archive's bytes, and what comes of it
pub record IsTalk (number : ℕ) (archive input : List ℕ) (status : ℕ) (bytes : List ℕ) : Type 0 where
  pub reading : Reading
  pub is : IsReadingOf archive reading
  pub talk : IsTalkIn number reading input status bytes

-- what comes of what stands under the archive's name; where nothing stands there, no outcome does
abbrev pub IsTalkTo : ℕ → Option (List ℕ) → List ℕ → ℕ → List ℕ → Type 0
IsTalkTo number None input status bytes = ⊥
IsTalkTo number (Some archive) input status bytes = IsTalk number archive input status bytes

-- what is written where the words have no reading
abbrev pub not_understood_line : List ℕ
not_understood_line = codes "khe-talk: words not understood\n"

-- the outcome of what is asked for, and of words without a reading, by what stands under each name
abbrev pub IsOutcome : Option Asked → (List ℕ → Option (List ℕ)) → List ℕ → ℕ → List ℕ → Type 0
IsOutcome None under input status bytes = (status ≡ 2) × (bytes ≡ not_understood_line)
IsOutcome (Some a) under input status bytes = IsTalkTo a.solution (under a.archive) input status bytes
