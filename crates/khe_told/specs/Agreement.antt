-- The deviation of a monitor in a told state, and lists of deviations that agree with the state on some kinds.
use Rattle.std.specs.Prelude.{ℕ, ◌≡◌, Bool, true, false, Some, List, slice_get}
use Rattle.khe_instance.specs.Deviation.{deviation}
use Rattle.khe_instance.specs.declared.parts.Parts.{Parts}
use Rattle.khe_instance.specs.declared.points.Monitor.{Monitor}
use Rattle.khe_instance.specs.declared.rules.Kind.{Kind}
use Rattle.khe_told.specs.Lists.{meets_in, duties_in}
use Rattle.khe_told.specs.declared.slots.Slot.{Slot}

-- a monitor's deviation in a told state
abbrev pub deviation_in : Parts → List Slot → Monitor → ℕ
deviation_in p s m = deviation p (meets_in s) (duties_in s) m

-- the list has the deviations of the monitors of the served kinds
abbrev pub Agrees : Parts → (Kind → Bool) → List Slot → List ℕ → Type 0
Agrees p served s ds = (i : ℕ) (m : Monitor) → slice_get p.monitors i ≡ Some m → served m.kind ≡ true
    → slice_get ds i ≡ Some (deviation_in p s m)

-- no kind is served by both
abbrev pub AreApart : (Kind → Bool) → (Kind → Bool) → Type 0
AreApart f g = (k : Kind) → f k ≡ true → g k ≡ false
