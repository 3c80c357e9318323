-- The places before the next one are given the same.
use Rattle.std.proofs.Common.{◌-◌, length}
use Rattle.khe_told.proofs.NamingLaws.{AreSameBelow}
use Rattle.khe_told.proofs.turns.differ.Given as goal

abbrev pub invariant-loop-place : goal.invariant-loop-place
invariant-loop-place l = AreSameBelow l.place l.old l.new

abbrev pub decreases-loop-place : goal.decreases-loop-place
decreases-loop-place l = length l.old - l.place
