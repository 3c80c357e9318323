use Rattle.std.proofs.Common.{◌*◌}
use Rattle.monitor_graph.specs.Rows.{AreClear}
use Rattle.monitor_graph.proofs.rows.first_word.Given as goal

abbrev pub invariant-loop-word : goal.invariant-loop-word
invariant-loop-word l = AreClear l.summary l.from (64 * l.word)
