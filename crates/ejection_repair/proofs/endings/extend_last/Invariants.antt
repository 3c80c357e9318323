use Rattle.std.proofs.Common.{◌≡◌, length, map}
use Rattle.ejection_repair.specs.Chains.{extensions}
use Rattle.ejection_repair.specs.Kept.{IsBack}
use Rattle.ejection_repair.specs.Lifts.{ended, fresh_ahead}
use Rattle.ejection_repair.specs.Looks.{look, chain_at}
use Rattle.ejection_repair.specs.Rounds.{IsRound}
use Rattle.ejection_repair.specs.Trails.{moved_of}
use Rattle.ejection_repair.proofs.endings.extend_last.Given as goal

-- what is still to be looked at comes to what all comes to
abbrev pub invariant-loop-count : goal.invariant-loop-count
invariant-loop-count g l =
    let w = l.fn.engine in
    record {
      back : IsBack w l.engine;
      inst : l.inst ≡ w.parts;
      round : IsRound w.parts l.round;
      looks : look w.parts l.aim.lowest l.left (map (ended w.state)
          (fresh_ahead w.parts w.state.slots (moved_of l.trail) l.round))
          ≡ look w.parts l.aim.lowest l.fn.left
          (extensions w.parts w.marked l.aim.diversifier 1 (chain_at l.trail w) l.fn.monitor.0);
    }

abbrev pub decreases-loop-count : goal.decreases-loop-count
decreases-loop-count g l = length (fresh_ahead l.inst l.engine.state.slots (moved_of l.trail) l.round)
