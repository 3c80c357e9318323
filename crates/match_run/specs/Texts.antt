-- The text of a matching: the archive with what it leaves in place of the solution, and the lines with the choice
-- and the prices. Any certified choice makes such a text.
use Rattle.std.specs.Prelude.{ℕ, ◌≡◌, List, ◌++◌, encode_utf8_all}
use Rattle.khe_instance.specs.declared.parts.Parts.{Parts}
use Rattle.khe_instance.specs.declared.states.Plain.{Plain}
use Rattle.repair_run.specs.Placed.{respelled}
use Rattle.xhstt_shape.specs.declared.records.Archive.{Archive}
use Rattle.xhstt_writer.specs.Archives.{canonical}
use Rattle.match_run.specs.Found.{IsFound}
use Rattle.match_run.specs.Lines.{match_lines}
use Rattle.match_run.specs.declared.finding.Found.{Found}

-- the bytes of an archive in which the timetable takes the place of a solution, and of the lines on the matching
abbrev pub match_bytes : Archive → ℕ → Parts → Found → List ℕ
match_bytes a number p f =
    canonical (respelled a number p f.plain) ++ encode_utf8_all (match_lines f.matched f.totals)

-- a text that these bytes spell, for a matching of this timetable: some choice and prices that are certified for the
-- costs, which the lines show
pub record IsMatchText (a : Archive) (number : ℕ) (p : Parts) (plain : Plain) (time rtype : ℕ) (text : List ℕ)
    : Type 0 where
  pub found : Found
  pub is : IsFound p plain time rtype found
  pub bytes_are : encode_utf8_all text ≡ match_bytes a number p found
