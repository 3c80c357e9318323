-- What the sink took of a page, by the status.
use Rattle.std.specs.Prelude.{ℕ, ◌≡◌, ◌<◌, ◌≤◌, ◌⊎◌, Option, List, [], ◌++◌, length, Bool, encode_utf8_all}
use Rattle.std.specs.Prelude.{IfSome, IsSomeAnd}
use Rattle.archive_reading.specs.Reading.{IsReadingOf, evaluable, refused}
use Rattle.archive_reading.specs.declared.refusals.Refusal.{Refusal}
use Rattle.khe_io.specs.Amid.{IsAmid}
use Rattle.khe_io.specs.Faults.{Took}
use Rattle.timetable_page.specs.Pages.{AreSections, IsPage}
use Rattle.timetable_page.specs.Refusals.{refusal_page}
use Rattle.timetable_page.specs.declared.program.TheConstants.{PAGE_BYTES}
use Rattle.xhstt_references.specs.References.{solutions_of}
use Rattle.xhstt_resolve.specs.declared.resolving.Resolved.{Resolved}
use Rattle.xhstt_shape.specs.declared.records.Archive.{Archive}
use Rattle.xhstt_shape.specs.declared.records.RawSolution.{RawSolution}

-- the statuses of a run whose words have a reading
abbrev pub IsStatus : ℕ → Type 0
IsStatus n = (n ≡ 0) ⊎ (n ≡ 3) ⊎ (n ≡ 4) ⊎ (n ≡ 5) ⊎ (n ≡ 6)

-- the shelf tells bytes under a name that are as they are said to be
abbrev pub Stands : Option (List ℕ → Option (List ℕ)) → List ℕ → (List ℕ → Type 0) → Type 0
Stands holdings name P = IfSome holdings (λ under. IsSomeAnd (under name) P)

-- all solutions that are asked for and there are shown, or fewer where the page is too large for more
abbrev pub AreEnough : ℕ → ℕ → List ℕ → Type 0
AreEnough count n sections = (n ≡ count) ⊎ (PAGE_BYTES < length (encode_utf8_all sections))

-- the sections of the first solutions were taken, after an opening
pub record AreSent (r : Resolved) (raws : List RawSolution) (shown : ℕ → Bool) (n sent : ℕ)
    (before now : Option (List ℕ)) (opening : List ℕ) : Type 0 where
  pub sections : List ℕ
  pub are : AreSections r raws shown n sections
  pub counted : sent ≤ length (encode_utf8_all sections)
  pub amid : IsAmid before now [] [] (opening ++ sections)

-- and they are enough
pub record AreAllSent (r : Resolved) (raws : List RawSolution) (shown : ℕ → Bool) (n : ℕ)
    (before now : Option (List ℕ)) (opening : List ℕ) : Type 0 where
  pub sections : List ℕ
  pub are : AreSections r raws shown n sections
  pub enough : AreEnough (length raws) n sections
  pub amid : IsAmid before now [] [] (opening ++ sections)

-- a sink took the whole page of an archive, with a section of each solution that is asked for
pub record IsPut (a : Archive) (r : Resolved) (shown : ℕ → Bool) (before after : Option (List ℕ)) : Type 0 where
  pub looked : ℕ
  pub text : List ℕ
  pub page : IsPage a r shown looked text
  pub enough : AreEnough (length (solutions_of a)) looked page.sections
  pub took : Took before after (encode_utf8_all text)

-- a sink took the whole page of an archive that these bytes spell
pub record IsShown (shown : ℕ → Bool) (before after : Option (List ℕ)) (bytes : List ℕ) : Type 0 where
  pub archive : Archive
  pub resolved : Resolved
  pub read : IsReadingOf bytes (evaluable archive resolved)
  pub put : IsPut archive resolved shown before after

-- a sink took the page that refuses these bytes
pub record IsRefused (before after : Option (List ℕ)) (bytes : List ℕ) : Type 0 where
  pub refusal : Refusal
  pub why : IsReadingOf bytes (refused refusal)
  pub took : Took before after (encode_utf8_all (refusal_page refusal))
