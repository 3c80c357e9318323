use Rattle.std.proofs.Common.{arith}
use Rattle.demand_matching.proofs.All.{all_reached}
use Rattle.demand_matching.proofs.Seen.{seen_none}
use Rattle.demand_matching.proofs.reach.reached_from.Goals as goal

pub follow_all-requires-clause-all : goal.follow_all-requires-clause-all
follow_all-requires-clause-all c =
    all_reached c.args.table.now c.args.order.now c.args.left c.args.met c.requires

pub follow_all-requires-clause-seen : goal.follow_all-requires-clause-seen
follow_all-requires-clause-seen c =
    let n = c.requires.table.owners_length in
    seen_none c.args.table.now c.start.new.self.marks _ _ c.in_ok-unseen.ensures (omega (arith, n))
