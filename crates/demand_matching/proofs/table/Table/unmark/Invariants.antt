use Rattle.std.proofs.Common.{ℕ, ◌<◌, ◌≤◌, ◌≡◌, Some, false, length, get_or}
use Rattle.khe_base.specs.Bits.{is_set}
use Rattle.demand_matching.specs.Table.{supply_of}
use Rattle.demand_matching.proofs.table.Table.unmark.Given as goal

abbrev pub invariant-loop-place : goal.invariant-loop-place
invariant-loop-place l = record {
  room : length l.unseen.items ≡ length l.fn.unseen.items;
  still : (supply : ℕ) → is_set l.unseen.items supply ≡ false → is_set l.fn.unseen.items supply ≡ false;
  none : (k supply : ℕ) → l.from ≤ k → k < l.place → supply_of l.self (get_or l.order.demands.items k 0) ≡ Some supply
      → is_set l.unseen.items supply ≡ false → ⊥;
}
