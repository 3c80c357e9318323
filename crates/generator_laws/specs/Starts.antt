-- What a run on the archive that is made begins with.
use Rattle.std.specs.Prelude.{ℕ, ◌≡◌, Some, Ok, slice_get}
use Rattle.khe_instance.specs.declared.parts.Parts.{Parts}
use Rattle.khe_instance.specs.declared.states.Plain.{Plain}
use Rattle.xhstt_shape.specs.declared.records.RawSolution.{RawSolution}
use Rattle.xhstt_references.specs.References.{solutions_of}
use Rattle.xhstt_resolve.specs.declared.resolving.Resolved.{Resolved}
use Rattle.xhstt_completion.specs.Completed.{completed}
use Rattle.xhstt_completion.specs.Numbered.{parts_at}
use Rattle.archive_generator.specs.Made.{made}

-- the archive that is made from a seed and a size, with these instances, has a first solution, and the parts
-- of that solution's instance complete it to a state
pub record HasStart (seed size : ℕ) (r : Resolved) : Type 0 where
  pub solution : RawSolution
  pub first : slice_get (solutions_of (made seed size)) 0 ≡ Some solution
  pub parts : Parts
  pub parts_are : parts_at r 0 ≡ Some parts
  pub state : Plain
  pub completed_is : completed parts solution ≡ Ok state
