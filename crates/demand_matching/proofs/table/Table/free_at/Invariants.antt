use Rattle.std.proofs.Common.{ℕ, ◌+◌, ◌*◌, ◌<◌, ◌≡◌, true, false}
use Rattle.khe_base.specs.Bits.{is_set}
use Rattle.demand_matching.specs.Domains.{is_picked}
use Rattle.demand_matching.proofs.table.Table.free_at.Given as goal

abbrev pub invariant-loop-k : goal.invariant-loop-k
invariant-loop-k l = (time : ℕ) → time < 64 * l.k → is_picked l.self.times l.domain.times time ≡ true
    → is_set l.self.free.items (l.row + time) ≡ false
