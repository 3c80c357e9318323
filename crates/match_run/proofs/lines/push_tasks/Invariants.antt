use Rattle.std.proofs.Common.{◌≡◌, ◌++◌, drop}
use Rattle.match_run.specs.Lines.{task_lines}
use Rattle.match_run.proofs.lines.push_tasks.Given as goal

-- what is written, and the lines that are left, are all
abbrev pub invariant-loop-k : goal.invariant-loop-k
invariant-loop-k l =
    l.line ++ task_lines l.resources (drop l.k l.tasks) (drop l.k l.choice) (drop l.k l.prices)
    ≡ l.fn.line ++ task_lines l.resources l.tasks l.choice l.prices
