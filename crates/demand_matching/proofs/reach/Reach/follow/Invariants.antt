use Rattle.std.proofs.Common.{ℕ, ◌+◌, ◌*◌, ◌<◌, ◌≡◌, true, Some, get_or}
use Rattle.khe_base.specs.IdSet.{has_member}
use Rattle.demand_matching.specs.Domains.{is_picked}
use Rattle.demand_matching.specs.Members.{picked}
use Rattle.demand_matching.specs.Reach.{AreSeen, Reaches}
use Rattle.demand_matching.specs.Table.{owner_of}
use Rattle.demand_matching.proofs.reach.Reach.follow.Given as goal

abbrev pub invariant-loop-i : goal.invariant-loop-i
invariant-loop-i l = record {
  reaches : Reaches l.table l.fn.self l.self;
  seen : AreSeen l.table l.self.marks l.unseen.items;
  reached : (j time by : ℕ) → j < l.i → is_picked l.table.times l.domain.times time ≡ true
      → owner_of l.table (get_or (picked l.table.resources l.domain.resources) j
      0 * l.table.last + l.domain.shift + time) ≡ Some by → has_member l.self.marks by ≡ true;
}
