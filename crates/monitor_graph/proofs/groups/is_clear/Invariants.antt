use Rattle.std.proofs.Common.{ℕ, ◌≡◌, ◌≤◌, ◌<◌, slice_index_or}
use Rattle.monitor_graph.proofs.groups.is_clear.Given as goal

abbrev pub invariant-loop-word : goal.invariant-loop-word
invariant-loop-word l = (n : ℕ) → l.first ≤ n → n < l.word → slice_index_or l.held n 0 ≡ 0
