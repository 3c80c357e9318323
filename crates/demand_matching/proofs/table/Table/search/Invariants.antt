use Rattle.std.proofs.Common.{ℕ, ◌<◌, ◌≤◌, ◌≡◌, ◌-◌, true, get_or}
use Rattle.demand_matching.specs.Table.{domains_of, may_take, demands_in}
use Rattle.demand_matching.specs.Search.{GoesOn, IsReached}
use Rattle.demand_matching.proofs.table.Table.search.Given as goal

abbrev pub invariant-loop-place : goal.invariant-loop-place
invariant-loop-place l = record {
  from_head : l.head ≤ l.place;
  within : l.place ≤ l.met;
  goes_on : GoesOn l.self l.head l.fn.order l.order l.unseen.items l.left l.met;
  closed : (place supply : ℕ) → l.head ≤ place → place < l.place
      → may_take (domains_of l.self) (get_or l.order.demands.items place 0) supply ≡ true
      → IsReached l.self l.order.spots.items l.met supply;
}

abbrev pub decreases-loop-place : goal.decreases-loop-place
decreases-loop-place l = demands_in l.self - l.place
