-- So many empty benches were made.
use Rattle.std.proofs.Common.{◌≡◌, None, replicate}
use Rattle.monitor_graph.proofs.groups.no_benches.Given as goal

abbrev pub invariant-loop : goal.invariant-loop
invariant-loop l = l.benches.items ≡ replicate l.counter (record { group = None; seats = 0 })
