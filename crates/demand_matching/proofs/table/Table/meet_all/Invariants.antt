use Rattle.std.proofs.Common.{ℕ, ◌+◌, ◌*◌, ◌<◌, ◌≡◌, true, get_or}
use Rattle.demand_matching.specs.Domains.{is_picked}
use Rattle.demand_matching.specs.Members.{picked}
use Rattle.demand_matching.specs.Search.{GoesOn, IsReached}
use Rattle.demand_matching.proofs.table.Table.meet_all.Given as goal

abbrev pub invariant-loop-i : goal.invariant-loop-i
invariant-loop-i l = record {
  goes_on : GoesOn l.self l.stage.head l.fn.order l.order l.unseen.items l.len l.met;
  reached : (j time : ℕ) → j < l.i → is_picked l.self.times l.domain.times time ≡ true
      → IsReached l.self l.order.spots.items l.met (get_or (picked l.self.resources l.domain.resources) j
      0 * l.self.last + l.domain.shift + time);
}
