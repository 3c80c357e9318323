-- What was taken of a run, in the words of the promise: a repair, a solve or a matching that is no dearer,
-- deficits whose demands outnumber their supplies, and archives that are read back.
use Rattle.std.specs.Prelude.{ℕ, ◌≡◌, ◌≤◌, Bool, Option, Some, IfSome, List, length, encode_utf8_all}
use Rattle.archive_reading.specs.Reading.{IsReadingOf, evaluable}
use Rattle.command_words.specs.Words.{Asked, checking, making, matching, repairing, scripting, solving}
use Rattle.khe_app.specs.Deficits.{DeficitsTell}
use Rattle.khe_app.specs.Outcome.{answers_of}
use Rattle.khe_app.specs.Texts.{IsCheckOf, IsMatchFrom, IsReadAsMade, IsRepairFrom, IsSolveFrom}
use Rattle.khe_base.specs.declared.limits.TheConstants.{SCRIPT_BYTES}
use Rattle.khe_engine.specs.Openings.{IsStateOf}
use Rattle.khe_engine.specs.States.{State}
use Rattle.khe_instance.specs.declared.parts.Parts.{Parts}
use Rattle.khe_instance.specs.declared.states.Plain.{Plain}
use Rattle.khe_io.specs.Faults.{Took}
use Rattle.reading_commands.specs.Ends.{Holdings}
use Rattle.text_laws.specs.Read.{IsTimetableOf}
use Rattle.xhstt_resolve.specs.declared.resolving.Resolved.{Resolved}
use Rattle.xhstt_shape.specs.declared.records.Archive.{Archive}

-- after a repair, a solve or a matching, the bytes that the sink took are read as the archive under the name with the
-- entries of that solution changed, which costs what the last line says, and no more than before
abbrev pub IsNoDearer : Option Asked → Holdings → Option (List ℕ) → Option (List ℕ) → Type 0
IsNoDearer (Some (repairing archive number depth budget)) holdings before after =
    IfSome holdings (λ under. (bytes : List ℕ) × (written : List ℕ) × (under archive ≡ Some bytes)
    × Took before after written × IsRepairFrom number bytes written)
IsNoDearer (Some (solving archive number depth budget jobs)) holdings before after =
    IfSome holdings (λ under. (bytes : List ℕ) × (written : List ℕ) × (under archive ≡ Some bytes)
    × Took before after written × IsSolveFrom number jobs bytes written)
IsNoDearer (Some (matching archive number time rtype)) holdings before after =
    IfSome holdings (λ under. (bytes : List ℕ) × (written : List ℕ) × (under archive ≡ Some bytes)
    × Took before after written × IsMatchFrom number bytes written)
IsNoDearer _ holdings before after = Unit {0}

-- these bytes are the answers to a script on the solution with this number that was read from the archive's bytes, and
-- those to `deficit` tell demands that outnumber their supplies
pub record AreAnswers (tied : Bool) (number : ℕ) (bytes script written : List ℕ) : Type 0 where
  pub archive : Archive
  pub instances : Resolved
  pub read : IsReadingOf bytes (evaluable archive instances)
  pub parts : Parts
  pub timetable : Plain
  pub solution : IsTimetableOf archive instances number parts timetable
  pub state : State
  pub state_is : IsStateOf parts timetable state
  pub text : List ℕ
  pub text_is : text ≡ answers_of tied parts state script
  pub written_is : written ≡ encode_utf8_all text
  pub tell : DeficitsTell tied parts state script text

-- after a script that is small enough to be run, the sink took these
abbrev pub Outnumber : Option Asked → Holdings → Option (List ℕ) → Option (List ℕ) → Type 0
Outnumber (Some (scripting archive number script tied)) holdings before after =
    IfSome holdings (λ under. (content : List ℕ) → under script ≡ Some content → length content ≤ SCRIPT_BYTES
    → (bytes : List ℕ) × (written : List ℕ) × (under archive ≡ Some bytes) × Took before after written
    × AreAnswers tied number bytes content written)
Outnumber _ holdings before after = Unit {0}

-- after a check, the bytes that the sink took are read as the same archive, and after `make` as the archive that is
-- made, also where the shelf tells nothing
abbrev pub IsReadBack : Option Asked → Holdings → Option (List ℕ) → Option (List ℕ) → Type 0
IsReadBack (Some (checking archive)) holdings before after =
    IfSome holdings (λ under. (bytes : List ℕ) × (text : List ℕ) × (under archive ≡ Some bytes)
    × Took before after (encode_utf8_all text) × IsCheckOf bytes text)
IsReadBack (Some (making seed size)) holdings before after =
    (written : List ℕ) × Took before after written × IsReadAsMade seed size written
IsReadBack _ holdings before after = Unit {0}
