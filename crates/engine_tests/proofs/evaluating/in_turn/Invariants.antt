-- The windows so far have no more solutions than there are, and each leaves fewer.
use Rattle.std.proofs.Common.{length, ◌-◌, ◌≤◌}
use Rattle.engine_tests.proofs.evaluating.in_turn.Given as goal

abbrev pub invariant-loop-first : goal.invariant-loop-first
invariant-loop-first g l = l.first ≤ length l.raws

abbrev pub decreases-loop-first : goal.decreases-loop-first
decreases-loop-first g l = length l.raws - l.first
