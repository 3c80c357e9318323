-- What is read of the texts that `check`, `repair`, `solve`, `match` and `make` write.
use Rattle.std.specs.Prelude.{ℕ, ◌≡◌, ◌≤◌, Option, Some, List, length, encode_utf8_all}
use Rattle.archive_generator.specs.Made.{made}
use Rattle.khe_base.specs.declared.limits.TheConstants.{ARCHIVE_BYTES}
use Rattle.khe_instance.specs.declared.parts.Parts.{Parts}
use Rattle.khe_instance.specs.declared.states.Plain.{Plain}
use Rattle.khe_app.specs.Outcome.{IsOutcomeOf}
use Rattle.reading_commands.specs.Outcome.{IsRespelled}
use Rattle.archive_reading.specs.Reading.{IsReadingOf, evaluable}
use Rattle.command_words.specs.Words.{checking, repairing, solving}
use Rattle.text_laws.specs.Read.{IsArchiveOf, IsTimetableOf}
use Rattle.text_laws.specs.Matched.{IsReadMatched}
use Rattle.text_laws.specs.Repaired.{IsReadRepaired, IsReadSolved}
use Rattle.text_laws.specs.Rewritten.{IsReadAgain}
use Rattle.xhstt_resolve.specs.declared.resolving.Resolved.{Resolved}
use Rattle.xhstt_shape.specs.Places.{IsSame}
use Rattle.xhstt_shape.specs.declared.records.Archive.{Archive}
use Rattle.xhstt_writer.specs.Archives.{canonical}

-- an archive was read from some bytes, and a text has the bytes of its spelling, which are read as the same archive;
-- where they are few enough to be read, they are what is written for them
pub record IsCheckOf (bytes text : List ℕ) : Type 0 where
  pub archive : Archive
  pub instances : Resolved
  pub read : IsReadingOf bytes (evaluable archive instances)
  pub written : encode_utf8_all text ≡ canonical archive
  pub again : IsReadAgain archive instances
  pub fixed : length (encode_utf8_all text) ≤ ARCHIVE_BYTES → IsRespelled (encode_utf8_all text) 0 text

-- a solution with this number was read from some bytes, and these are read as the same archive with it repaired
pub record IsRepairFrom (number : ℕ) (bytes written : List ℕ) : Type 0 where
  pub archive : Archive
  pub instances : Resolved
  pub read : IsReadingOf bytes (evaluable archive instances)
  pub parts : Parts
  pub timetable : Plain
  pub solution : IsTimetableOf archive instances number parts timetable
  pub repaired : IsReadRepaired archive instances number parts timetable written

-- or with the least result of many jobs in its place
pub record IsSolveFrom (number jobs : ℕ) (bytes written : List ℕ) : Type 0 where
  pub archive : Archive
  pub instances : Resolved
  pub read : IsReadingOf bytes (evaluable archive instances)
  pub parts : Parts
  pub timetable : Plain
  pub solution : IsTimetableOf archive instances number parts timetable
  pub solved : IsReadSolved archive instances number parts timetable jobs written

-- or with a matching of its tasks in its place
pub record IsMatchFrom (number : ℕ) (bytes written : List ℕ) : Type 0 where
  pub archive : Archive
  pub instances : Resolved
  pub read : IsReadingOf bytes (evaluable archive instances)
  pub parts : Parts
  pub timetable : Plain
  pub solution : IsTimetableOf archive instances number parts timetable
  pub matched : IsReadMatched archive instances number parts timetable written

-- bytes are read as the archive that is made from a seed, of a size, with the instances that it resolves to
pub record IsReadAsMade (seed size : ℕ) (bytes : List ℕ) : Type 0 where
  pub archive : Archive
  pub instances : Resolved
  pub read : IsArchiveOf bytes archive instances
  pub same : IsSame (made seed size) archive

-- the outcomes with status 0
abbrev pub ChecksAreReadAgain : Type 0
ChecksAreReadAgain =
    (name : List ℕ) (under : List ℕ → Option (List ℕ)) (text : List ℕ)
    → IsOutcomeOf (Some (checking name)) under 0 text
    → (bytes : List ℕ) × (under name ≡ Some bytes) × IsCheckOf bytes text

abbrev pub RepairsAreNoDearer : Type 0
RepairsAreNoDearer =
    (name : List ℕ) (number depth budget : ℕ) (under : List ℕ → Option (List ℕ)) (text : List ℕ)
    → IsOutcomeOf (Some (repairing name number depth budget)) under 0 text
    → (bytes : List ℕ) × (under name ≡ Some bytes) × IsRepairFrom number bytes (encode_utf8_all text)

abbrev pub SolvesAreNoDearer : Type 0
SolvesAreNoDearer =
    (name : List ℕ) (number depth budget jobs : ℕ) (under : List ℕ → Option (List ℕ)) (text : List ℕ)
    → IsOutcomeOf (Some (solving name number depth budget jobs)) under 0 text
    → (bytes : List ℕ) × (under name ≡ Some bytes) × IsSolveFrom number jobs bytes (encode_utf8_all text)
