use Rattle.std.proofs.Common.{ℕ, ◌≡◌, ◌≤◌, length, List}
use Rattle.std.specs.List.{flat_map}
use Rattle.ejection_repair.specs.Chains.{Chain}
use Rattle.ejection_repair.specs.Rounds.{defects_ahead}
use Rattle.ejection_repair.specs.Stuck.{AreStuckSpans, LeavesOutStuck}
use Rattle.ejection_repair.specs.Values.{costs_at}
use Rattle.ejection_repair.proofs.sweeping.next_free.Given as goal

-- what comes of the defects ahead is what came of all
abbrev pub invariant-loop-defect : goal.invariant-loop-defect
invariant-loop-defect g l =
    let costs = costs_at l.engine.parts l.engine.state in
    record {
      spans : AreStuckSpans l.engine.parts l.spans;
      same : (f : ℕ → List Chain) → LeavesOutStuck l.engine.parts f
          → flat_map f (defects_ahead costs l.fn.round) ≡ flat_map f (defects_ahead costs l.round);
      fewer : length (defects_ahead costs l.round) ≤ length (defects_ahead costs l.fn.round);
    }

abbrev pub decreases-loop-defect : goal.decreases-loop-defect
decreases-loop-defect g l = length (defects_ahead (costs_at l.engine.parts l.engine.state) l.round)
