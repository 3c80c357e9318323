use Rattle.std.proofs.Common.{◌≡◌, take}
use Rattle.std.specs.Prelude.{map}
use Rattle.monitor_graph.specs.Opened.{line_of}
use Rattle.monitor_graph.proofs.opening.lines_of.Given as goal
use Rattle.std.proofs.Common.{true}

abbrev pub invariant-loop-number : goal.invariant-loop-number
invariant-loop-number l = l.lines.items ≡ map (line_of l.inst true) (take l.number l.inst.monitors)
