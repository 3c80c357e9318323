use Rattle.std.proofs.Common.{◌≡◌, ◌<◌, ◌+◌, ◌-◌, ◌*◌, length}
use Rattle.ejection_repair.specs.Chains.{extensions, further_at, tried}
use Rattle.ejection_repair.specs.Kept.{IsBack}
use Rattle.ejection_repair.specs.Looks.{look, chain_at}
use Rattle.ejection_repair.specs.Rounds.{moves_ahead, IsRound}
use Rattle.ejection_repair.proofs.searching.+search.Given as goal

abbrev pub decreases-attempt : goal.decreases-attempt
decreases-attempt g l = 3 * l.more + 2

abbrev pub decreases-go_on : goal.decreases-go_on
decreases-go_on g l = 3 * l.more + 1

abbrev pub decreases-extend : goal.decreases-extend
decreases-extend g l = 3 * l.more

-- what is still to be looked at comes to what all comes to
abbrev pub invariant-extend-loop-edit : goal.invariant-extend-loop-edit
invariant-extend-loop-edit g l =
    let w = l.fn.engine in
    record {
      back : IsBack w l.engine;
      inst : l.inst ≡ w.parts;
      more : 0 < l.more;
      round : IsRound w.parts l.round;
      looks : look w.parts l.aim.lowest l.left (tried (further_at w.parts w.marked l.aim.diversifier (l.more - 1))
          (chain_at l.trail w) (moves_ahead w.parts w.state.slots l.round))
          ≡ look w.parts l.aim.lowest l.fn.left (extensions w.parts w.marked l.aim.diversifier l.more
          (chain_at l.trail w) l.fn.monitor.0);
    }

abbrev pub decreases-extend-loop-edit : goal.decreases-extend-loop-edit
decreases-extend-loop-edit g l = length (moves_ahead l.inst l.engine.state.slots l.round)
