-- Monitors that wait are to be measured anew, since a change may have changed their deviations. A monitor that does
-- not wait has the deviation that it had.
use Rattle.std.specs.Prelude.{ℕ, ◌≡◌, Bool, true, false, Some, List, length, nat_eq, if◌then◌else◌, slice_get}
use Rattle.std.specs.Prelude.{slice_index_or}
use Rattle.std.specs.List.{count_by}
use Rattle.khe_base.specs.declared.numbers.MonitorId.{MonitorId}
use Rattle.khe_instance.specs.declared.parts.Parts.{Parts}
use Rattle.khe_instance.specs.declared.points.Monitor.{Monitor}
use Rattle.khe_instance.specs.declared.rules.Kind.{Kind}
use Rattle.khe_told.specs.Agreement.{deviation_in}
use Rattle.khe_told.specs.declared.slots.Slot.{Slot}

-- for each monitor whether it waits, and how many do
pub record Waiters : Type 0 where
  pub flags : List Bool
  pub amount : ℕ

-- whether the monitor with a number waits
abbrev pub waits_in : Waiters → ℕ → Bool
waits_in w k = slice_index_or w.flags k false

-- a list has the monitors that wait, each once, and no other
pub record AreListedOnce (list : List MonitorId) (flags : List Bool) : Type 0 where
  pub once : (k : ℕ) → count_by (λ (m : MonitorId). nat_eq m.0 k) list ≡ (if slice_index_or flags k false then 1 else 0)
  pub amount : length list ≡ count_by (λ (b : Bool). b) flags

-- a monitor of the served kinds that does not wait has the same deviation in both states
abbrev pub AreUnmoved : Parts → (Kind → Bool) → (ℕ → Bool) → List Slot → List Slot → Type 0
AreUnmoved p served waits old new = (i : ℕ) (m : Monitor) → slice_get p.monitors i ≡ Some m → served m.kind ≡ true
    → waits i ≡ false → deviation_in p new m ≡ deviation_in p old m

-- the monitors that waited still wait
abbrev pub WaitOn : (ℕ → Bool) → (ℕ → Bool) → Type 0
WaitOn old new = (k : ℕ) → old k ≡ true → new k ≡ true
