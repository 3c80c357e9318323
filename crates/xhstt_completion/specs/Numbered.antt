-- The solution with a number, counted over all groups of an archive that was resolved, and its instance.
use Rattle.std.specs.Prelude.{ℕ, ◌≡◌, Option, Some, Ok, slice_get}
use Rattle.std.specs.Option.{option_and_then}
use Rattle.khe_instance.specs.declared.parts.Parts.{Parts}
use Rattle.xhstt_references.specs.References.{solutions_of}
use Rattle.xhstt_resolve.specs.Resolved.{resolved}
use Rattle.xhstt_resolve.specs.declared.resolving.Resolved.{Resolved}
use Rattle.xhstt_shape.specs.WellFormed.{IsInForm}
use Rattle.xhstt_shape.specs.declared.records.Archive.{Archive}
use Rattle.xhstt_shape.specs.declared.records.RawSolution.{RawSolution}

-- the parts of the instance of the solution with this number
abbrev pub parts_at : Resolved → ℕ → Option Parts
parts_at r number = option_and_then (λ k. slice_get r.instances k) (slice_get r.of number)

-- the solution with this number of an archive in form, for which resolving gives this; it has an instance
pub record IsOne (r : Resolved) (number : ℕ) (raw : RawSolution) : Type 0 where
  pub parts : Parts
  pub at : parts_at r number ≡ Some parts
  pub archive : Archive
  pub formed : IsInForm archive
  pub resolved_is : resolved archive ≡ Ok r
  pub found : slice_get (solutions_of archive) number ≡ Some raw
