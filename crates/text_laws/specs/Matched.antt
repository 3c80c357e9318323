-- What a matching is written as, read again: the same archive but for one solution, which costs what the last line
-- says.
use Rattle.std.specs.Prelude.{ℕ, ◌≡◌, ◌⊎◌, true, List, encode_utf8_all}
use Rattle.khe_base.specs.Totals.{is_lower}
use Rattle.khe_instance.specs.Evaluated.{totals}
use Rattle.khe_instance.specs.declared.parts.Parts.{Parts}
use Rattle.khe_instance.specs.declared.states.Plain.{Plain}
use Rattle.match_run.specs.Lines.{match_lines}
use Rattle.match_run.specs.Texts.{IsMatchText}
use Rattle.time_match.specs.declared.outcomes.Matched.{Matched}
use Rattle.xhstt_resolve.specs.declared.resolving.Resolved.{Resolved}
use Rattle.xhstt_shape.specs.declared.records.Archive.{Archive}
use Rattle.text_laws.specs.Read.{IsArchiveOf, IsTimetableOf}
use Rattle.text_laws.specs.Repaired.{IsWrittenWith}

-- bytes are read as a matched archive: the timetable costs what the last of the lines on the matching says; that is
-- what the one before it cost, or less
pub record IsReadMatched (a : Archive) (r : Resolved) (number : ℕ) (p : Parts) (plain : Plain) (bytes : List ℕ)
    : Type 0 where
  pub matched : Matched
  pub timetable : Plain
  pub written : IsWrittenWith (match_lines matched (totals p timetable)) a r number p bytes timetable
  pub cost : (totals p timetable ≡ totals p plain) ⊎ (is_lower (totals p timetable) (totals p plain) ≡ true)

-- whatever archive was read, and whichever time of its solutions was matched
abbrev pub MatchingsAreReadNoDearer : Type 0
MatchingsAreReadNoDearer =
    (bytes : List ℕ) (a : Archive) (r : Resolved) (number : ℕ) (p : Parts) (plain : Plain) (time rtype : ℕ)
    (text : List ℕ) → IsArchiveOf bytes a r → IsTimetableOf a r number p plain
    → IsMatchText a number p plain time rtype text → IsReadMatched a r number p plain (encode_utf8_all text)
