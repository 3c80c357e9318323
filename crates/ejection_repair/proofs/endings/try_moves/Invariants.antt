use Rattle.std.proofs.Common.{◌≡◌, length, map}
use Rattle.std.specs.Prelude.{All}
use Rattle.ejection_repair.specs.Kept.{IsBack}
use Rattle.ejection_repair.specs.Lifts.{IsMove, ended}
use Rattle.ejection_repair.specs.Looks.{look}
use Rattle.ejection_repair.proofs.endings.try_moves.Given as goal

-- what is still to be looked at comes to what all comes to
abbrev pub invariant-loop-rest : goal.invariant-loop-rest
invariant-loop-rest g l =
    let w = l.fn.engine in
    record {
      back : IsBack w l.engine;
      moves : All (IsMove w.parts w.state.slots) l.rest;
      looks : look w.parts l.aim.lowest l.left (map (ended w.state) l.rest)
          ≡ look w.parts l.aim.lowest l.fn.left (map (ended w.state) l.fn.moves);
    }

abbrev pub decreases-loop-rest : goal.decreases-loop-rest
decreases-loop-rest g l = length l.rest
