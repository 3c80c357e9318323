-- What is not above its greatest is within it.
use Rattle.std.proofs.Common.{◌≤◌, ◌∙◌, subst}
use Rattle.khe_base.specs.declared.limits.TheConstants.{DURATION, TASKS}
use Rattle.fault_tables.specs.declared.limits.TheConstants.{TOO_LONG_DURATION, TOO_MANY_TASKS}
use Rattle.xhstt_resolve.proofs.WellMadeFaults.{not-above}
use Rattle.xhstt_resolve.proofs.instances.sums_within.Goals as goal

pub returns-clause-duration : goal.returns-clause-duration
returns-clause-duration c =
    let short = not-above TOO_LONG_DURATION DURATION c.from.result c.in_ok-within.ensures.within in
    subst (λ n. n ≤ DURATION) (c.from.ensures ∙ c.total_duration.ensures) short

pub returns-clause-tasks : goal.returns-clause-tasks
returns-clause-tasks c =
    subst (λ n. n ≤ TASKS) c.task_count.ensures
    (not-above TOO_MANY_TASKS TASKS c.task_count.result c.in_ok-within-2.ensures.within)
