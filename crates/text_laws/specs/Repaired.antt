-- What a repair and a solve are written as, read again: the same archive but for one solution, which costs what the
-- line says.
use Rattle.std.specs.Prelude.{ℕ, ◌≡◌, ◌<◌, ◌⊎◌, true, List, ◌++◌, encode_utf8_all}
use Rattle.ejection_repair.specs.Settled.{accepted_of}
use Rattle.ejection_repair.specs.declared.outcome.Outcome.{Outcome}
use Rattle.khe_base.specs.Totals.{is_lower}
use Rattle.khe_instance.specs.Evaluated.{totals}
use Rattle.khe_instance.specs.declared.parts.Parts.{Parts}
use Rattle.khe_instance.specs.declared.states.Plain.{Plain}
use Rattle.repair_run.specs.Lines.{repair_line, solve_line}
use Rattle.repair_run.specs.Repairs.{IsRepairText}
use Rattle.repair_run.specs.Solves.{IsSolveText}
use Rattle.xhstt_resolve.specs.declared.resolving.Resolved.{Resolved}
use Rattle.xhstt_shape.specs.declared.records.Archive.{Archive}
use Rattle.xhstt_writer.specs.Archives.{canonical}
use Rattle.text_laws.specs.Read.{IsArchiveOf, IsSameBut, IsTimetableOf}

-- bytes are the spelling of an archive and a line after it; they are read as that archive, which is the same as this
-- one but for the entries of the solution with this number, and has the same instances, each of its solutions the
-- instance that it had; and its solution with that number says a timetable
pub record IsWrittenWith (line : List ℕ) (a : Archive) (r : Resolved) (number : ℕ) (p : Parts) (bytes : List ℕ)
    (timetable : Plain) : Type 0 where
  pub archive : Archive
  pub bytes_are : bytes ≡ canonical archive ++ encode_utf8_all line
  pub again : Resolved
  pub read : IsArchiveOf bytes archive again
  pub instances : again.instances ≡ r.instances
  pub of : again.of ≡ r.of
  pub same : IsSameBut number a archive
  pub solution : IsTimetableOf archive again number p timetable

-- bytes are read as a repaired archive: the timetable costs what the line on the repair says; that is what the one
-- before it cost, where no chain was taken, and else less
pub record IsReadRepaired (a : Archive) (r : Resolved) (number : ℕ) (p : Parts) (plain : Plain) (bytes : List ℕ)
    : Type 0 where
  pub outcome : Outcome
  pub timetable : Plain
  pub written : IsWrittenWith (repair_line outcome (totals p timetable)) a r number p bytes timetable
  pub cost : ((accepted_of outcome ≡ 0) × (totals p timetable ≡ totals p plain))
      ⊎ ((0 < accepted_of outcome) × (is_lower (totals p timetable) (totals p plain) ≡ true))

-- bytes are read as a solved archive: the timetable costs what the line on the job says; that is what the one before
-- it cost, or less
pub record IsReadSolved (a : Archive) (r : Resolved) (number : ℕ) (p : Parts) (plain : Plain) (jobs : ℕ)
    (bytes : List ℕ) : Type 0 where
  pub job : ℕ
  pub within : job < jobs
  pub timetable : Plain
  pub written : IsWrittenWith (solve_line job (totals p timetable)) a r number p bytes timetable
  pub cost : (totals p timetable ≡ totals p plain) ⊎ (is_lower (totals p timetable) (totals p plain) ≡ true)

-- whatever archive was read, and whichever of its solutions was repaired
abbrev pub RepairsAreReadNoDearer : Type 0
RepairsAreReadNoDearer =
    (bytes : List ℕ) (a : Archive) (r : Resolved) (number : ℕ) (p : Parts) (plain : Plain) (depth budget : ℕ)
    (text : List ℕ) → IsArchiveOf bytes a r → IsTimetableOf a r number p plain
    → IsRepairText a number p plain depth budget text → IsReadRepaired a r number p plain (encode_utf8_all text)

abbrev pub SolvesAreReadNoDearer : Type 0
SolvesAreReadNoDearer =
    (bytes : List ℕ) (a : Archive) (r : Resolved) (number : ℕ) (p : Parts) (plain : Plain) (depth budget jobs : ℕ)
    (text : List ℕ) → IsArchiveOf bytes a r → IsTimetableOf a r number p plain
    → IsSolveText a number p plain depth budget jobs text → IsReadSolved a r number p plain jobs (encode_utf8_all text)
