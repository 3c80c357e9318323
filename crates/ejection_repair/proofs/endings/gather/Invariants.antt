use Rattle.std.proofs.Common.{◌≡◌, ◌≤◌, ◌++◌, length, take}
use Rattle.std.specs.Prelude.{All}
use Rattle.ejection_repair.specs.Lifts.{IsMove, fresh_ahead}
use Rattle.ejection_repair.specs.Rounds.{IsRound}
use Rattle.ejection_repair.specs.Trails.{moved_of}
use Rattle.ejection_repair.proofs.endings.gather.Given as goal

-- n are written, and the others are ahead
abbrev pub invariant-loop-count : goal.invariant-loop-count
invariant-loop-count l = record {
  some : 1 ≤ l.count;
  long : length l.row ≡ 64;
  round : IsRound l.inst l.round;
  moves : All (IsMove l.inst l.solution.slots) (take l.count l.row);
  ahead : fresh_ahead l.inst l.solution.slots (moved_of l.trail) l.fn.round
      ≡ take l.count l.row ++ fresh_ahead l.inst l.solution.slots (moved_of l.trail) l.round;
}
