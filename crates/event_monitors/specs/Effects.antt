-- What effects leave as it is, and the monitors that are queued since effects may change their deviations.
use Rattle.std.specs.Prelude.{ℕ, ◌≡◌, Bool, true, false, Some, List, [], ◌∷◌, slice_get}
use Rattle.khe_instance.specs.declared.parts.Parts.{Parts}
use Rattle.khe_instance.specs.declared.points.Monitor.{Monitor}
use Rattle.khe_told.specs.Agreement.{deviation_in}
use Rattle.khe_told.specs.Effects.{AreTurns, IsCut, turned_all}
use Rattle.khe_told.specs.Turns.{SlotTurn}
use Rattle.khe_told.specs.declared.slots.Slot.{Slot}
use Rattle.event_monitors.specs.Posts.{names}
use Rattle.event_monitors.specs.Turns.{has}
use Rattle.event_monitors.specs.declared.posts.Post.{Post}

-- a cut leaves the deviation that is read from a gauge
abbrev pub IsUncut : {G : Type 0} → (G → Parts → Monitor → List Slot → Type 0) → (G → Parts → Monitor → ℕ) → G → Type 0
IsUncut {G} keeps value g = (p : Parts) (m : Monitor) (s : List Slot) (a b : SlotTurn) → IsCut a b
    → AreTurns p s (a ∷ b ∷ []) → keeps g p m s → deviation_in p (turned_all s (a ∷ b ∷ [])) m ≡ value g p m

-- a gauge whose monitor does not wait keeps what it should of a state
abbrev pub AreKeptOrWait : {G : Type 0} → (G → Parts → Monitor → List Slot → Type 0) → Parts → List Post → List G
    → (ℕ → Bool) → List Slot → Type 0
AreKeptOrWait {G} keeps p posts gauges waits s = (k : ℕ) (a : Post) (g : G) → slice_get posts k ≡ Some a
    → slice_get gauges k ≡ Some g → waits a.number.0 ≡ false → keeps g p a.monitor s

-- at each place of a list that is not of the rest a fact holds, or its monitor waits
abbrev pub HoldOrWait : (ℕ → Post → Type 0) → List Post → List ℕ → List ℕ → (ℕ → Bool) → Type 0
HoldOrWait fact posts list rest waits = (k : ℕ) (a : Post) → has list k ≡ true → has rest k ≡ false
    → slice_get posts k ≡ Some a → waits a.number.0 ≡ false → fact k a

-- the monitor names the event of none of some turns
abbrev pub NameNone : Parts → Monitor → List SlotTurn → Type 0
NameNone p m [] = Unit {0}
NameNone p m (t ∷ ts) = (names p t.before.event.0 m ≡ false) × NameNone p m ts

-- a fact holds of the monitors at all places of a list
abbrev pub HoldAt : (Monitor → Type 0) → List Post → List ℕ → Type 0
HoldAt fact posts [] = Unit {0}
HoldAt fact posts (k ∷ ks) = ((a : Post) → slice_get posts k ≡ Some a → fact a.monitor) × HoldAt fact posts ks
