use Rattle.std.proofs.Common.{◌≡◌, length}
use Rattle.std.specs.List.{flat_map}
use Rattle.ejection_repair.specs.Values.{costs_at}
use Rattle.ejection_repair.specs.Chains.{extensions, chains}
use Rattle.ejection_repair.specs.Kept.{IsBack}
use Rattle.ejection_repair.specs.Looks.{look, chain_at}
use Rattle.ejection_repair.specs.Rounds.{defects_ahead}
use Rattle.ejection_repair.specs.Stuck.{AreStuckSpans}
use Rattle.ejection_repair.proofs.sweeping.sweep.Given as goal

-- what is still to be looked at comes to what all comes to
abbrev pub invariant-loop-defect : goal.invariant-loop-defect
invariant-loop-defect g l =
    let w = l.fn.engine in
    record {
      back : IsBack w l.engine;
      spans : AreStuckSpans w.parts l.spans;
      looks : look w.parts l.aim.lowest l.left (flat_map
          (extensions w.parts w.marked l.aim.diversifier l.more (chain_at l.trail w))
          (defects_ahead (costs_at w.parts w.state) l.round))
          ≡ look w.parts l.aim.lowest l.fn.left (chains w.parts w.state l.aim.diversifier l.more);
    }

abbrev pub decreases-loop-defect : goal.decreases-loop-defect
decreases-loop-defect g l = length (defects_ahead (costs_at l.engine.parts l.engine.state) l.round)
