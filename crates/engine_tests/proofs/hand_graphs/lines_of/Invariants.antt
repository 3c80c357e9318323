use Rattle.engine_tests.specs.HandGraphs.{AreFresh}
use Rattle.engine_tests.proofs.hand_graphs.lines_of.Given as goal

abbrev pub invariant-times : goal.invariant-times
invariant-times l = AreFresh l.lines.items

abbrev pub invariant-loop-weight : goal.invariant-loop-weight
invariant-loop-weight l = AreFresh l.lines.items
