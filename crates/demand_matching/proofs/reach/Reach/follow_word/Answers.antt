use Rattle.std.proofs.Common.{arith, inl, inr}
use Rattle.demand_matching.proofs.Counting.{cases_last}
use Rattle.demand_matching.proofs.Reaching.{reaches_trans}
use Rattle.demand_matching.proofs.reach.Reach.follow_word.Goals as goal

pub loop-i-preserved : goal.loop-i-preserved
loop-i-preserved c =
    let inv = c.loop-i.invariant in
    let e = c.in_ok-follow_bit.ensures in
    record {
      reaches = reaches_trans c.args.table.now c.args.self.now c.loop-i.self c.follow_bit.new.self inv.reaches e.reaches;
      seen = e.seen;
      reached = λ j by l h o. elim (cases_last j c.loop-i.i (omega arith)) [
        | inl x ↦ e.reached by (rw (← x) h) (rw (← x) o)
        | inr less ↦ e.reaches.marks by (inv.reached j by less h o)
      ];
    }
