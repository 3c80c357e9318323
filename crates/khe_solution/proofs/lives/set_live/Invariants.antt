use Rattle.std.proofs.Common.{length}
use Rattle.khe_solution.specs.LiveBits.{AreLiveBelow, AreLiveRows}
use Rattle.khe_solution.proofs.lives.set_live.Given as goal

abbrev pub invariant-loop-slot : goal.invariant-loop-slot
invariant-loop-slot l = record {
  rows : AreLiveRows (length l.told) l.rows;
  bits : AreLiveBelow l.told l.slot l.rows;
}
