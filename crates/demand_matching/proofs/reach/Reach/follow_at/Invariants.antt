use Rattle.std.proofs.Common.{ℕ, ◌+◌, ◌*◌, ◌<◌, ◌≡◌, true, Some}
use Rattle.khe_base.specs.IdSet.{has_member}
use Rattle.demand_matching.specs.Domains.{is_picked}
use Rattle.demand_matching.specs.Reach.{AreSeen, Reaches}
use Rattle.demand_matching.specs.Table.{owner_of}
use Rattle.demand_matching.proofs.reach.Reach.follow_at.Given as goal

abbrev pub invariant-loop-k : goal.invariant-loop-k
invariant-loop-k l = record {
  reaches : Reaches l.table l.fn.self l.self;
  seen : AreSeen l.table l.self.marks l.unseen.items;
  reached : (time by : ℕ) → time < 64 * l.k → is_picked l.table.times l.domain.times time ≡ true
      → owner_of l.table (l.row + time) ≡ Some by → has_member l.self.marks by ≡ true;
}
