-- What effects make of workloads, and who is queued for them.
use Rattle.std.specs.Prelude.{ℕ, ◌≡◌, ◌<◌, ◌≤◌, ◌⊎◌, Bool, true, false, if◌then◌else◌, Option, Some, List, length, slice_get}
use Rattle.khe_base.specs.declared.numbers.ResourceId.{ResourceId}
use Rattle.khe_instance.specs.ResourceDeviation.{workload_in}
use Rattle.khe_instance.specs.Watching.{is_at}
use Rattle.khe_instance.specs.declared.parts.Parts.{Parts}
use Rattle.khe_instance.specs.declared.points.Monitor.{Monitor}
use Rattle.khe_instance.specs.declared.rules.Kind.{Kind}
use Rattle.khe_told.specs.Agreement.{deviation_in}
use Rattle.khe_told.specs.Lists.{duties_in}
use Rattle.khe_told.specs.declared.slots.Slot.{Slot}
use Rattle.resource_monitors.specs.Cells.{is_by_busy}
use Rattle.resource_monitors.specs.Loads.{is_on_workload}
use Rattle.resource_monitors.specs.Runs.{cells_of}
use Rattle.resource_monitors.specs.declared.runs.Run.{Run}

-- the served monitors at a resource wait
abbrev pub AreQueued : Parts → (Kind → Bool) → ℕ → (ℕ → Bool) → Type 0
AreQueued p served q waits = (i : ℕ) (m : Monitor) → slice_get p.monitors i ≡ Some m → served m.kind ≡ true
    → is_at m.point q ≡ true → waits i ≡ true

-- those at what a place is given do
abbrev pub IsPlaceQueued : Parts → (Kind → Bool) → Option ResourceId → (ℕ → Bool) → Type 0
IsPlaceQueued p served place waits = (r : ResourceId) → place ≡ Some r → AreQueued p served r.0 waits

-- the workload of a resource in a told state
abbrev pub load_in : Parts → List Slot → ℕ → ℕ
load_in p s q = workload_in p.events p.unit (duties_in s) q

-- each resource has the same workload in both states, or the monitors on it wait
abbrev pub AreLoadsQueued : Parts → List Slot → List Slot → (ℕ → Bool) → Type 0
AreLoadsQueued p s s2 waits = (q : ℕ) → (load_in p s2 q ≡ load_in p s q) ⊎ AreQueued p is_on_workload q waits

-- whether what a kind measures may be another, by whether busy times are and whether clashes are
abbrev pub is_changed : Kind → Bool → Bool → Bool
is_changed k busy clashes = if is_by_busy k then busy else clashes

-- a served monitor at a resource that does not wait has the same deviation in both states
abbrev pub IsSettled : Parts → (Kind → Bool) → List Slot → List Slot → ℕ → (ℕ → Bool) → Type 0
IsSettled p served s s2 q waits = (i : ℕ) (m : Monitor) → slice_get p.monitors i ≡ Some m → served m.kind ≡ true
    → is_at m.point q ≡ true → waits i ≡ false → deviation_in p s2 m ≡ deviation_in p s m

-- one at what a place is given
abbrev pub IsPlaceSettled : Parts → (Kind → Bool) → List Slot → List Slot → Option ResourceId → (ℕ → Bool) → Type 0
IsPlaceSettled p served s s2 place waits = (r : ResourceId) → place ≡ Some r → IsSettled p served s s2 r.0 waits

-- each resource has the same cells of the places before as of those after, or its monitors are settled
abbrev pub AreCellsSettled : Parts → (Kind → Bool) → List Slot → List Slot → Option Run → Option Run
    → List (Option ResourceId) → List (Option ResourceId) → (ℕ → Bool) → Type 0
AreCellsSettled p served s s2 emptied filled before later waits = (q : ℕ)
    → ((u : ℕ) → cells_of emptied before q u ≡ cells_of filled later q u) ⊎ IsSettled p served s s2 q waits

-- an instance has a time, and no more than the bits of a word
abbrev pub IsShort : Parts → Type 0
IsShort p = (0 < length p.times) × (length p.times ≤ 64)
