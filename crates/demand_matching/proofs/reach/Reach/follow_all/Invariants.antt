use Rattle.std.proofs.Common.{ℕ, ◌-◌, ◌<◌, ◌≤◌, ◌≡◌, true, Some, get_or, length}
use Rattle.khe_base.specs.IdSet.{has_member}
use Rattle.demand_matching.specs.Reach.{AreSeen, Reaches}
use Rattle.demand_matching.specs.Table.{domains_of, may_take, owner_of, demands_in}
use Rattle.demand_matching.proofs.reach.Reach.follow_all.Given as goal

abbrev pub invariant-loop-k : goal.invariant-loop-k
invariant-loop-k l = record {
  within : l.k ≤ length l.self.demands;
  reaches : Reaches l.table l.fn.self l.self;
  seen : AreSeen l.table l.self.marks l.unseen.items;
  reached : (j supply by : ℕ) → j < l.k → may_take (domains_of l.table) (get_or l.self.demands j 0) supply ≡ true
      → owner_of l.table supply ≡ Some by → has_member l.self.marks by ≡ true;
}

abbrev pub decreases-loop-k : goal.decreases-loop-k
decreases-loop-k l = demands_in l.table - l.k
