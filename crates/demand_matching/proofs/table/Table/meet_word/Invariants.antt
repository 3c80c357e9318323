use Rattle.std.proofs.Common.{ℕ, ◌+◌, ◌<◌, ◌≡◌, true}
use Rattle.khe_base.specs.Bits.{has_bit}
use Rattle.demand_matching.specs.Search.{GoesOn, IsReached}
use Rattle.demand_matching.proofs.table.Table.meet_word.Given as goal

abbrev pub invariant-loop-i : goal.invariant-loop-i
invariant-loop-i l = record {
  goes_on : GoesOn l.self l.stage.head l.fn.order l.order l.unseen.items l.len l.met;
  reached : (j : ℕ) → j < l.i → has_bit l.word j ≡ true → IsReached l.self l.order.spots.items l.met (l.from + j);
}
