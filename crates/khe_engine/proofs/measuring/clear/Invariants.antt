use Rattle.std.proofs.Common.{◌≡◌, length}
use Rattle.khe_engine.proofs.measuring.clear.Given as goal

abbrev pub invariant-loop : goal.invariant-loop
invariant-loop l = record {
  long : length l.waiting.flags ≡ length l.fn.waiting.flags;
}

abbrev pub decreases-loop : goal.decreases-loop
decreases-loop l = l.waiting.amount
