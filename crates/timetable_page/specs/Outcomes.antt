-- What comes of each solution, as the summary has it.
use Rattle.std.specs.Prelude.{ℕ}
use Rattle.parallel_solve.specs.Verdicts.{numbered_verdict}
use Rattle.parallel_solve.specs.declared.verdicts.Verdict.{Verdict}
use Rattle.parallel_solve.specs.declared.verdicts.Verdict.TheVariants as verdict
use Rattle.timetable_page.specs.declared.outcomes.Outcome.{Outcome}
use Rattle.timetable_page.specs.declared.outcomes.Outcome.TheVariants.{Valid, Invalid}
use Rattle.xhstt_resolve.specs.declared.resolving.Resolved.{Resolved}
use Rattle.xhstt_shape.specs.declared.records.RawSolution.{RawSolution}

-- the totals of a valid solution, and why another one is invalid
abbrev pub outcome_of : Verdict → Outcome
outcome_of (verdict.Valid values) = Valid values.totals
outcome_of (verdict.Invalid cause entry) = Invalid cause entry

-- what comes of the solution with this number
abbrev pub numbered_outcome : Resolved → ℕ × RawSolution → Outcome
numbered_outcome r row = outcome_of (numbered_verdict r row)
