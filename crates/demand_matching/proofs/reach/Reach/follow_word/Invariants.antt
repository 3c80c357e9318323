use Rattle.std.proofs.Common.{ℕ, ◌+◌, ◌<◌, ◌≡◌, true, Some}
use Rattle.khe_base.specs.Bits.{has_bit}
use Rattle.khe_base.specs.IdSet.{has_member}
use Rattle.demand_matching.specs.Reach.{AreSeen, Reaches}
use Rattle.demand_matching.specs.Table.{owner_of}
use Rattle.demand_matching.proofs.reach.Reach.follow_word.Given as goal

abbrev pub invariant-loop-i : goal.invariant-loop-i
invariant-loop-i l = record {
  reaches : Reaches l.table l.fn.self l.self;
  seen : AreSeen l.table l.self.marks l.unseen.items;
  reached : (j by : ℕ) → j < l.i → has_bit l.word j ≡ true → owner_of l.table (l.first + j) ≡ Some by
      → has_member l.self.marks by ≡ true;
}
