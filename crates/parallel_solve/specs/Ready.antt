-- An archive whose solutions have their instances.
use Rattle.std.specs.Prelude.{ℕ, ◌≡◌, ◌+◌, ◌<◌, ◌^◌, Some, List, length, slice_get}
use Rattle.xhstt_references.specs.References.{solutions_of}
pub use Rattle.xhstt_completion.specs.Numbered.{IsOne}
use Rattle.xhstt_resolve.specs.declared.resolving.Resolved.{Resolved}
use Rattle.xhstt_shape.specs.declared.records.Archive.{Archive}
use Rattle.xhstt_shape.specs.declared.records.RawSolution.{RawSolution}

-- solutions of a resolved archive that are numbered on from this number
abbrev pub AreOnes : Resolved → ℕ → List RawSolution → Type 0
AreOnes r number raws = (k : ℕ) (raw : RawSolution) → slice_get raws k ≡ Some raw → IsOne r (number + k) raw

-- all solutions of an archive have theirs, and are not too many for their numbers
pub record IsReady (a : Archive) (r : Resolved) : Type 0 where
  pub ones : AreOnes r 0 (solutions_of a)
  pub counted : length r.of ≡ length (solutions_of a)
  pub few : length (solutions_of a) < 2 ^ 32
