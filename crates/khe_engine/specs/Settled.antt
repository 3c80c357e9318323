-- Each monitor that is not queued has its deviation, and between two calls none is queued.
use Rattle.std.specs.Prelude.{ℕ, ◌≡◌, Bool, false, Some, List, length, slice_get}
use Rattle.khe_instance.specs.declared.parts.Parts.{Parts}
use Rattle.khe_instance.specs.declared.points.Monitor.{Monitor}
use Rattle.khe_told.specs.Agreement.{deviation_in}
use Rattle.khe_told.specs.Waits.{Waiters, waits_in}
use Rattle.khe_told.specs.declared.slots.Slot.{Slot}

-- each monitor that does not wait has the deviation of these slots
abbrev pub AreMeasured : Parts → (ℕ → Bool) → List Slot → List ℕ → Type 0
AreMeasured p waits s ds = (i : ℕ) (m : Monitor) → slice_get p.monitors i ≡ Some m → waits i ≡ false
    → slice_get ds i ≡ Some (deviation_in p s m)

-- none of an instance's monitors waits
pub record IsIdle (p : Parts) (w : Waiters) : Type 0 where
  pub long : length w.flags ≡ length p.monitors
  pub amount : w.amount ≡ 0
  pub none : (k : ℕ) → waits_in w k ≡ false
