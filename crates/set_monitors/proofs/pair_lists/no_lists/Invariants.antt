use Rattle.std.proofs.Common.{◌≡◌, [], replicate}
use Rattle.set_monitors.proofs.pair_lists.no_lists.Given as goal

abbrev pub invariant-loop : goal.invariant-loop
invariant-loop l = l.lists ≡ replicate l.counter []
