use Rattle.std.proofs.Common.{ℕ, ◌+◌, ◌*◌, ◌<◌, ◌≡◌, true}
use Rattle.demand_matching.specs.Domains.{is_picked}
use Rattle.demand_matching.specs.Search.{GoesOn, IsReached}
use Rattle.demand_matching.proofs.table.Table.meet_at.Given as goal

abbrev pub invariant-loop-k : goal.invariant-loop-k
invariant-loop-k l = record {
  goes_on : GoesOn l.self l.stage.head l.fn.order l.order l.unseen.items l.len l.met;
  reached : (time : ℕ) → time < 64 * l.k → is_picked l.self.times l.domain.times time ≡ true
      → IsReached l.self l.order.spots.items l.met (l.row + time);
}
