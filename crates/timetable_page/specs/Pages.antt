-- A page: an opening, a section for each solution that is asked for with what comes of it, and a closing.
use Rattle.std.specs.Prelude.{ℕ, zero, suc, ◌≡◌, ◌⊎◌, Bool, true, false, Some, List, [], ◌++◌, slice_get}
use Rattle.parallel_solve.specs.Verdicts.{numbered_verdict}
use Rattle.parallel_solve.specs.declared.verdicts.Verdict.{Verdict}
use Rattle.timetable_page.specs.Pieces.{verdict_text}
use Rattle.xhstt_references.specs.References.{solutions_of}
use Rattle.xhstt_resolve.specs.declared.resolving.Resolved.{Resolved}
use Rattle.xhstt_shape.specs.declared.records.Archive.{Archive}
use Rattle.xhstt_shape.specs.declared.records.RawSolution.{RawSolution}

-- a section says what comes of its solution
pub record IsSection (v : Verdict) (section : List ℕ) : Type 0 where
  pub head : List ℕ
  pub rest : List ℕ
  pub is : section ≡ head ++ (verdict_text v ++ rest)

-- the section of the solution with this number, after those of the ones before it
pub record IsNext (r : Resolved) (raws : List RawSolution) (n : ℕ) (before text : List ℕ) : Type 0 where
  pub raw : RawSolution
  pub found : slice_get raws n ≡ Some raw
  pub section : List ℕ
  pub said : IsSection (numbered_verdict r (n, raw)) section
  pub is : text ≡ before ++ section

-- after the sections of the solutions before it, that of the solution with this number, where it is asked for
abbrev pub IsNextIf : Resolved → List RawSolution → (ℕ → Bool) → ℕ → List ℕ → List ℕ → Type 0
IsNextIf r raws shown n before text =
    ((shown n ≡ true) × IsNext r raws n before text) ⊎ ((shown n ≡ false) × (text ≡ before))

-- the sections of those of the first solutions that are asked for
abbrev pub AreSections : Resolved → List RawSolution → (ℕ → Bool) → ℕ → List ℕ → Type 0
AreSections r raws shown zero text = text ≡ []
AreSections r raws shown (suc n) text =
    (before : List ℕ) × AreSections r raws shown n before × IsNextIf r raws shown n before text

-- a page with the sections of those of so many solutions that are asked for
pub record IsPage (a : Archive) (r : Resolved) (shown : ℕ → Bool) (n : ℕ) (text : List ℕ) : Type 0 where
  pub opening : List ℕ
  pub sections : List ℕ
  pub closing : List ℕ
  pub are : AreSections r (solutions_of a) shown n sections
  pub is : text ≡ opening ++ (sections ++ closing)
