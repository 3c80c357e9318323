-- The text of a repair: the archive in its canonical spelling with the repaired timetable in place of the solution,
-- and the line on the repair.
use Rattle.std.specs.Prelude.{ℕ, ◌≡◌, List, ◌++◌, encode_utf8_all}
use Rattle.ejection_repair.specs.Repaired.{repaired}
use Rattle.khe_engine.specs.Openings.{IsStateOf}
use Rattle.khe_engine.specs.States.{State}
use Rattle.khe_engine.specs.Values.{totals}
use Rattle.khe_instance.specs.declared.parts.Parts.{Parts}
use Rattle.khe_instance.specs.declared.states.Plain.{Plain}
use Rattle.xhstt_shape.specs.declared.records.Archive.{Archive}
use Rattle.xhstt_writer.specs.Archives.{canonical}
use Rattle.repair_run.specs.Lines.{repair_line}
use Rattle.repair_run.specs.Placed.{respelled}
use Rattle.repair_run.specs.declared.mending.Mended.{Mended}

-- what repair of a timetable leaves: how it ended, and the timetable of the repaired state with what it
-- costs. Lists are begun at their first elements
pub record IsMended (p : Parts) (plain : Plain) (depth budget : ℕ) (m : Mended) : Type 0 where
  pub state : State
  pub begins : IsStateOf p plain state
  pub outcome : m.outcome ≡ (repaired p state depth budget 0).outcome
  pub listed : IsStateOf p m.plain (repaired p state depth budget 0).state
  pub totals : m.totals ≡ totals p (repaired p state depth budget 0).state

-- the bytes of an archive in which a repair takes the place of a solution, and of the line on it
abbrev pub repair_bytes : Archive → ℕ → Parts → Mended → List ℕ
repair_bytes a number p m =
    canonical (respelled a number p m.plain) ++ encode_utf8_all (repair_line m.outcome m.totals)

-- a text that these bytes spell, for a repair of this timetable
pub record IsRepairText (a : Archive) (number : ℕ) (p : Parts) (plain : Plain) (depth budget : ℕ) (text : List ℕ)
    : Type 0 where
  pub mended : Mended
  pub is : IsMended p plain depth budget mended
  pub bytes_are : encode_utf8_all text ≡ repair_bytes a number p mended
