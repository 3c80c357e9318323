use Rattle.std.proofs.Common.{arith}
use Rattle.demand_matching.proofs.Reaching.{reach_fits}
use Rattle.demand_matching.proofs.reach.Reach.follow_all.Goals as goal

pub loop-k-smaller : goal.loop-k-smaller
loop-k-smaller c = omega (
  arith,
  reach_fits c.args.table.now c.loop-k.self.demands c.loop-k.self.marks
      c.loop-k.invariant.reaches.reach,
  c.len.ensures,
)
