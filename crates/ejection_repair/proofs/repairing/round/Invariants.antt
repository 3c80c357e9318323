use Rattle.std.proofs.Common.{◌≡◌, ◌≤◌, ◌+◌, ◌-◌, ℕ}
use Rattle.ejection_repair.specs.Kept.{IsBack}
use Rattle.ejection_repair.specs.Repaired.{run, tries_from, runs_from}
use Rattle.ejection_repair.specs.Stuck.{AreStuckSpans}
use Rattle.ejection_repair.proofs.repairing.round.Given as goal

-- what is still to be looked at comes to what all comes to
abbrev pub invariant-loop-gone : goal.invariant-loop-gone
invariant-loop-gone g l =
    let w = l.fn.engine in
    let v = l.aim.diversifier in
    record {
      back : IsBack w l.engine;
      spans : AreStuckSpans w.parts l.spans;
      fewer : l.left ≤ l.fn.left;
      runs : (a t : ℕ) → runs_from w.parts l.depth v l.fn.left a t w.state
          ≡ run w.parts l.depth v l.left a (t + (l.fn.left - l.left)) w.state
          (tries_from w.parts w.state v l.gone (l.depth - l.gone));
    }
