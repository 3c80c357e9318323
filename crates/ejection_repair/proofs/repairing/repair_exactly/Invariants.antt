use Rattle.std.proofs.Common.{◌≡◌, ◌≤◌, ◌+◌, ◌-◌, []}
use Rattle.ejection_repair.specs.Repaired.{runs_from, repaired}
use Rattle.ejection_repair.specs.Stuck.{AreStuckSpans}
use Rattle.ejection_repair.proofs.repairing.repair_exactly.Given as goal

abbrev pub invariant-loop-accepted : goal.invariant-loop-accepted
invariant-loop-accepted g l =
    let w = l.fn.engine in
    record {
      parts : l.engine.parts ≡ w.parts;
      spans : AreStuckSpans w.parts l.spans;
      saved : l.engine.saved ≡ [];
      room : l.depth + 1 ≤ l.engine.spare;
      spare : w.spare ≤ l.engine.spare;
      fewer : l.accepted + l.left ≤ l.budget;
      runs : runs_from w.parts l.depth l.diversifier l.left l.accepted (l.budget - l.left) l.engine.state
          ≡ repaired w.parts w.state l.depth l.budget l.diversifier;
    }

abbrev pub decreases-loop-accepted : goal.decreases-loop-accepted
decreases-loop-accepted g l = l.left
