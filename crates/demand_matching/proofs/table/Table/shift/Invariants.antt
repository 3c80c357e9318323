use Rattle.std.proofs.Common.{ℕ, ◌<◌, ◌≤◌, ◌≡◌, None, true, get_or}
use Rattle.std.specs.Prelude.{is_none}
use Rattle.demand_matching.specs.Table.{domains_of, may_take, supply_of, owner_of, supplies_in, IsTable}
use Rattle.demand_matching.proofs.table.Table.shift.Given as goal

abbrev pub invariant-loop-freed : goal.invariant-loop-freed
invariant-loop-freed l = record {
  high : l.head ≤ l.place;
  near : l.place ≤ l.fn.place;
  table : IsTable l.self;
  domains : domains_of l.self ≡ domains_of l.fn.self;
  below : l.supply < supplies_in l.self;
  free : owner_of l.self l.supply ≡ None;
  allowed : may_take (domains_of l.self) (get_or l.order.demands.items l.place 0) l.supply ≡ true;
  same : (k : ℕ) → k ≤ l.place → supply_of l.self (get_or l.order.demands.items k 0)
      ≡ supply_of l.fn.self (get_or l.order.demands.items k 0);
  others : (demand : ℕ) → is_none (supply_of l.self demand) ≡ is_none (supply_of l.fn.self demand);
}

abbrev pub decreases-loop-freed : goal.decreases-loop-freed
decreases-loop-freed l = l.place
