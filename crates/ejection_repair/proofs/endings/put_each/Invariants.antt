use Rattle.std.proofs.Common.{◌≡◌, drop, map}
use Rattle.ejection_repair.specs.Kept.{IsBack}
use Rattle.ejection_repair.specs.Lifts.{ended, put_of}
use Rattle.ejection_repair.specs.Looks.{look}
use Rattle.ejection_repair.proofs.endings.put_each.Given as goal

-- what is still to be looked at comes to what all comes to
abbrev pub invariant-loop-edit : goal.invariant-loop-edit
invariant-loop-edit g l =
    let w = l.fn.engine in
    record {
      back : IsBack w l.engine;
      looks : look w.parts l.aim.lowest l.left (map (ended w.state) (map put_of (drop l.edit-index l.moves)))
          ≡ look w.parts l.aim.lowest l.fn.left (map (ended w.state) (map put_of l.moves));
    }
