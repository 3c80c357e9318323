use Rattle.std.proofs.Common.{◌≡◌, length}
use Rattle.khe_solution.specs.FreeBits.{AreSetBelow}
use Rattle.khe_solution.proofs.bits.set_free.Given as goal

abbrev pub invariant-loop-slot : goal.invariant-loop-slot
invariant-loop-slot l = record {
  length : length l.words.items ≡ length l.fn.words.items;
  bits : AreSetBelow l.told l.slot l.words.items;
}
