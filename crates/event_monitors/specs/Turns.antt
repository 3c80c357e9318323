-- Gauges that are turned one by one: those still to come are as they were, and a gauge whose value changed has its
-- monitor waiting.
use Rattle.std.specs.Prelude.{ℕ, ◌≡◌, ◌⊎◌, ◌==◌, Bool, true, false, Some, List, length, slice_get}
use Rattle.std.specs.List.{list_any}
use Rattle.khe_instance.specs.declared.parts.Parts.{Parts}
use Rattle.khe_instance.specs.declared.points.Monitor.{Monitor}
use Rattle.khe_told.specs.declared.slots.Slot.{Slot}
use Rattle.event_monitors.specs.declared.posts.Post.{Post}

-- whether a list has a place
abbrev pub has : List ℕ → ℕ → Bool
has list k = list_any (λ j. j == k) list

-- the gauges at the places of the rest are as they were, all others keep the state after
pub record AreTurned {G : Type 0} (keeps : G → Parts → Monitor → List Slot → Type 0) (p : Parts) (posts : List Post)
    (s : List Slot) (old new : List G) (rest : List ℕ) : Type 0 where
  pub amount : length new ≡ length old
  pub later : (k : ℕ) → has rest k ≡ true → slice_get new k ≡ slice_get old k
  pub kept : (k : ℕ) (a : Post) (g : G) → has rest k ≡ false → slice_get posts k ≡ Some a → slice_get new k ≡ Some g
      → keeps g p a.monitor s

-- a gauge has the value that it had, unless its monitor waits
abbrev pub AreSameOrWait : {G : Type 0} → (G → Parts → Monitor → ℕ) → Parts → List Post → List G → List G → (ℕ → Bool)
    → Type 0
AreSameOrWait {G} value p posts old new waits = (k : ℕ) (a : Post) (g0 g : G) → slice_get posts k ≡ Some a
    → slice_get old k ≡ Some g0 → slice_get new k ≡ Some g → waits a.number.0 ≡ false
    → value g p a.monitor ≡ value g0 p a.monitor

-- who waits and did not before has a post at one of these places
abbrev pub AreListedSince : List Post → List ℕ → (ℕ → Bool) → (ℕ → Bool) → Type 0
AreListedSince posts list old new = (i : ℕ) → new i ≡ true → (old i ≡ true)
    ⊎ ((k : ℕ) × (a : Post) × (has list k ≡ true) × (slice_get posts k ≡ Some a) × (a.number.0 ≡ i))
