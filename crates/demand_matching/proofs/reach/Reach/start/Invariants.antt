use Rattle.std.proofs.Common.{ℕ, ◌<◌, ◌≡◌, true, get_or}
use Rattle.khe_base.specs.IdSet.{has_member}
use Rattle.demand_matching.specs.Reach.{Reaches}
use Rattle.demand_matching.proofs.reach.Reach.start.Given as goal

abbrev pub invariant-loop-place : goal.invariant-loop-place
invariant-loop-place l = record {
  reaches : Reaches l.table l.fn.self l.self;
  reached : (k : ℕ) → k < l.place → has_member l.self.marks (get_or l.order.demands.items k 0) ≡ true;
}
