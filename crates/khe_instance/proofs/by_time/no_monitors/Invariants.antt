-- So many rows so far.
use Rattle.std.proofs.Common.{◌≡◌, replicate, []}
use Rattle.khe_instance.proofs.by_time.no_monitors.Given as goal

abbrev pub invariant-loop : goal.invariant-loop
invariant-loop l = l.table ≡ replicate l.counter (replicate l.words [])
