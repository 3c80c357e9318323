use Rattle.std.proofs.Common.{◌≡◌, ◌++◌, drop}
use Rattle.match_run.specs.Lines.{resource_lines}
use Rattle.match_run.proofs.lines.push_resources.Given as goal

-- what is written, and the lines that are left, are all
abbrev pub invariant-loop-k : goal.invariant-loop-k
invariant-loop-k l =
    l.line ++ resource_lines (drop l.k l.resources) (drop l.k l.prices)
    ≡ l.fn.line ++ resource_lines l.resources l.prices
