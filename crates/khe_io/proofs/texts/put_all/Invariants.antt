-- What was taken so far and the rest make up the bytes.
use Rattle.std.proofs.Common.{◌≡◌, [], ◌++◌, length, List, ℕ}
use Rattle.khe_io.specs.Faults.{Took}
use Rattle.khe_io.proofs.texts.put_all.Given as goal

abbrev pub invariant-loop-rest : goal.invariant-loop-rest
invariant-loop-rest g l = record {
  split : (front : List ℕ) × (l.bytes ≡ front ++ l.rest) × Took (g.K.Sink.taken l.fn.out) (g.K.Sink.taken l.out) front;
  faultless : g.K.Sink.faults l.out ≡ g.K.Sink.faults l.fn.out;
  untouched : l.fn.bytes ≡ [] → l.out ≡ l.fn.out;
}

abbrev pub decreases-loop-rest : goal.decreases-loop-rest
decreases-loop-rest g l = length l.rest
