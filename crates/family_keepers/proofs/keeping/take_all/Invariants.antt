use Rattle.std.proofs.Common.{ℕ, ◌≡◌, ◌≤◌, length, take}
use Rattle.khe_told.specs.Slots.{length_of, slot_at}
use Rattle.family_keepers.specs.Takes.{AreTaken, Mentions}
use Rattle.family_keepers.proofs.TakeLaws.{IsTaking}
use Rattle.family_keepers.proofs.keeping.take_all.Given as goal

abbrev pub invariant-loop-change : goal.invariant-loop-change
invariant-loop-change g l = record {
  keeps : g.K.Keeper.Keeps l.keeper l.inst l.told;
  taking : IsTaking l.inst l.fn.told l.ahead l.told l.changes g.K.Keeper.serves_kind g.W.Waits.hears
      (g.W.Waits.waits l.fn.waits) (g.W.Waits.waits l.waits);
  amount : length l.told ≡ length l.fn.told;
  short : (k : ℕ) → length_of (slot_at l.told k) ≤ length_of (slot_at l.ahead k);
  done : (k : ℕ) → Mentions (take l.change-index l.changes) k → slot_at l.told k ≡ slot_at l.ahead k;
  taken : AreTaken l.told l.ahead l.taken;
  monitors : g.W.Waits.monitors l.waits ≡ g.W.Waits.monitors l.fn.waits;
}
