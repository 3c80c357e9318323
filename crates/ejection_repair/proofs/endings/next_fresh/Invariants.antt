use Rattle.std.proofs.Common.{◌≡◌, length}
use Rattle.ejection_repair.specs.Lifts.{fresh_ahead}
use Rattle.ejection_repair.specs.Rounds.{IsRound, moves_ahead}
use Rattle.ejection_repair.specs.Trails.{moved_of}
use Rattle.ejection_repair.proofs.endings.next_fresh.Given as goal

-- what was passed moves something anew
abbrev pub invariant-loop-edit : goal.invariant-loop-edit
invariant-loop-edit l = record {
  round : IsRound l.inst l.round;
  ahead : fresh_ahead l.inst l.solution.slots (moved_of l.trail) l.round
      ≡ fresh_ahead l.inst l.solution.slots (moved_of l.trail) l.fn.round;
}

abbrev pub decreases-loop-edit : goal.decreases-loop-edit
decreases-loop-edit l = length (moves_ahead l.inst l.solution.slots l.round)
