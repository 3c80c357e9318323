use Rattle.std.proofs.Common.{ℕ, ◌≡◌, ◌<◌, false, is_none, slice_index_or}
use Rattle.monitor_graph.specs.Seating.{Sitting}
use Rattle.monitor_graph.proofs.groups.first_none.Given as goal

abbrev pub invariant-loop-place : goal.invariant-loop-place
invariant-loop-place l = (k : ℕ) (d : Sitting) → k < l.place → is_none (slice_index_or l.benches k d).group ≡ false
