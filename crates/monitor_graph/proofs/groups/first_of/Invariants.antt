use Rattle.std.proofs.Common.{ℕ, ◌≡◌, ◌<◌, false, slice_index_or}
use Rattle.std.specs.Prelude.{◌==◌}
use Rattle.khe_base.specs.declared.numbers.MonitorId.{MonitorId}
use Rattle.monitor_graph.proofs.groups.first_of.Given as goal

abbrev pub invariant-loop-place : goal.invariant-loop-place
invariant-loop-place l = (k : ℕ) (d : MonitorId) → k < l.place
    → ((slice_index_or l.children k d).0 == l.child.0) ≡ false
