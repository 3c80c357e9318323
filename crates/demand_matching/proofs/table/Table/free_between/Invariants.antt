use Rattle.std.proofs.Common.{ℕ, ◌+◌, ◌*◌, ◌<◌, ◌≤◌, ◌≡◌, true, false, get_or}
use Rattle.khe_base.specs.Bits.{is_set}
use Rattle.demand_matching.specs.Domains.{is_picked}
use Rattle.demand_matching.specs.Members.{picked}
use Rattle.demand_matching.proofs.table.Table.free_between.Given as goal

abbrev pub invariant-loop-i : goal.invariant-loop-i
invariant-loop-i l = (j time : ℕ) → l.first ≤ j → j < l.i → is_picked l.self.times l.domain.times time ≡ true
    → is_set l.self.free.items (get_or (picked l.self.resources l.domain.resources) j
    0 * l.self.last + l.domain.shift + time) ≡ false
