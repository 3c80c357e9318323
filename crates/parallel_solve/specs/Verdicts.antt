-- What comes of a solution: the deviations, costs and totals of its state, or its first cause.
use Rattle.std.specs.Prelude.{ℕ, Result, Ok, Err}
use Rattle.std.specs.Option.{option_map_or}
use Rattle.khe_instance.specs.Evaluated.{deviations, costs, totals}
use Rattle.khe_instance.specs.declared.parts.Parts.{Parts}
use Rattle.khe_instance.specs.declared.states.Plain.{Plain}
use Rattle.parallel_solve.specs.declared.verdicts.Verdict.{Verdict}
use Rattle.parallel_solve.specs.declared.verdicts.Verdict.TheVariants.{Valid, Invalid}
use Rattle.plain_eval.specs.declared.evaluation.Values.{Values}
use Rattle.xhstt_completion.specs.Completed.{completed}
pub use Rattle.xhstt_completion.specs.Numbered.{parts_at}
use Rattle.xhstt_completion.specs.declared.faults.Cause.{Cause}
use Rattle.xhstt_resolve.specs.declared.resolving.Resolved.{Resolved}
use Rattle.xhstt_shape.specs.declared.records.RawSolution.{RawSolution}

-- what a state costs
abbrev pub values_of : Parts → Plain → Values
values_of p s = record { deviations = deviations p s; costs = costs p s; totals = totals p s }

-- what comes of a solution that was completed, or is invalid for a cause
abbrev pub verdict_of : Parts → Result Plain Cause → Verdict
verdict_of p (Ok s) = Valid (values_of p s)
verdict_of p (Err cause) = Invalid cause.cause cause.entry

-- what comes of the solution with this number; each one of a resolved archive has its parts
abbrev pub numbered_verdict : Resolved → ℕ × RawSolution → Verdict
numbered_verdict r (number, raw) = option_map_or (λ p. verdict_of p (completed p raw)) (parts_at r number) (Invalid 0 0)
