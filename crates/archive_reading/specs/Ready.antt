-- An archive that is well formed, and was resolved: its solutions have their instances, which are not too
-- many for their numbers and have the archive's texts.
use Rattle.std.specs.Prelude.{◌≡◌, ◌<◌, ◌^◌, Ok, length, All}
use Rattle.parallel_solve.specs.Ready as solutions
use Rattle.xhstt_entries.specs.Texts.{HasSpellable}
use Rattle.xhstt_resolve.specs.Resolved.{resolved}
use Rattle.xhstt_resolve.specs.declared.resolving.Resolved.{Resolved}
use Rattle.xhstt_shape.specs.Characters.{IsSpellable}
use Rattle.xhstt_shape.specs.WellFormed.{IsWellFormed}
use Rattle.xhstt_shape.specs.declared.records.Archive.{Archive}

pub record IsReady (a : Archive) (r : Resolved) : Type 0 where
  pub resolved_is : resolved a ≡ Ok r
  pub ready : solutions.IsReady a r
  pub same : length a.instances ≡ length r.instances
  pub instances : length r.instances < 2 ^ 32
  pub well_formed : IsWellFormed a
  pub texts : All HasSpellable r.instances
  pub ids : All (λ p. IsSpellable p.id) r.instances
