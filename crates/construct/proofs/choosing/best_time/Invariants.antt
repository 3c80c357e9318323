-- What was looked at so far, and what comes, is all; the engine is as it was.
use Rattle.std.proofs.Common.{◌≡◌, length}
use Rattle.construct.proofs.LookLaws.{IsLooked, assign_at}
use Rattle.construct.proofs.choosing.best_time.Given as goal

abbrev pub invariant-loop-number : goal.invariant-loop-number
invariant-loop-number g l = record {
  looked : IsLooked (assign_at l.meet.0) l.fn.engine.parts l.fn.engine.state l.number (length l.fn.engine.parts.times) l.best;
  same : l.engine ≡ l.fn.engine;
}
