use Rattle.std.proofs.Common.{◌≡◌, length}
use Rattle.engine_tests.proofs.spans.mask_of.Given as goal

abbrev pub invariant-loop-time : goal.invariant-loop-time
invariant-loop-time l = length l.set ≡ 130
