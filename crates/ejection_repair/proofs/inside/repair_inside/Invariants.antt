use Rattle.std.proofs.Common.{◌≡◌, ◌≤◌, ◌+◌, ◌-◌, length}
use Rattle.khe_base.specs.declared.limits.TheConstants.{MARKS}
use Rattle.ejection_repair.specs.Kept.{states}
use Rattle.ejection_repair.specs.Repaired.{runs_from, repaired}
use Rattle.ejection_repair.specs.Stuck.{AreStuckSpans}
use Rattle.ejection_repair.proofs.inside.repair_inside.Given as goal

abbrev pub invariant-loop-accepted : goal.invariant-loop-accepted
invariant-loop-accepted g l =
    let w = l.fn.engine in
    record {
      parts : l.engine.parts ≡ w.parts;
      spans : AreStuckSpans w.parts l.spans;
      saved : states l.engine.saved ≡ states w.saved;
      count : length l.engine.saved ≡ length w.saved;
      marks : length w.saved + l.depth + l.spare_marks ≤ MARKS;
      fewer : l.accepted + l.left ≤ l.budget;
      runs : runs_from w.parts l.depth l.diversifier l.left l.accepted (l.budget - l.left) l.engine.state
          ≡ repaired w.parts w.state l.depth l.budget l.diversifier;
    }

abbrev pub decreases-loop-accepted : goal.decreases-loop-accepted
decreases-loop-accepted g l = l.left
