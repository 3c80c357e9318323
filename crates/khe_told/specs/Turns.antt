-- A turn replaces one meet slot by another in a single step, between two told states. It is watched by the
-- monitors that name the slot's event, that list a time at which it changes what their resource does, or that
-- limit a workload which it changes.
use Rattle.std.specs.Prelude.{ℕ, ◌≡◌, ◌⊎◌, ◌<◌, Bool, true, Option, Some, List, length, slice_get, slice_set}
use Rattle.std.specs.List.{list_any}
use Rattle.std.specs.Option.{option_map}
use Rattle.khe_base.specs.declared.numbers.ResourceId.{ResourceId}
use Rattle.khe_instance.specs.Watching.{is_at, is_workload, lists_time, names_event}
use Rattle.khe_instance.specs.declared.rules.Constraint.{Constraint}
use Rattle.khe_instance.specs.declared.parts.Parts.{Parts}
use Rattle.khe_instance.specs.declared.points.Monitor.{Monitor}
use Rattle.khe_instance.specs.declared.points.Point.{Point}
use Rattle.khe_instance.specs.declared.rules.Rule.{Rule}
use Rattle.khe_told.specs.Fits.{AreTold}
use Rattle.khe_told.specs.Slots.{emptied, slot_at}
use Rattle.khe_told.specs.Watchers.{times_of}
use Rattle.khe_told.specs.declared.slots.Slot.{Slot}
use Rattle.khe_told.specs.declared.slots.Span.{Span}

-- a slot before and after
pub record SlotTurn : Type 0 where
  pub before : Slot
  pub after : Slot

-- the turn of the slot with a number to what it is in another state
abbrev pub turn_to : List Slot → List Slot → ℕ → SlotTurn
turn_to s next k = record { before = slot_at s k; after = slot_at next k }

-- the told state after it
abbrev pub turned : List Slot → SlotTurn → List Slot
turned s t = slice_set s t.before.meet.0 t.after

-- a slot of a told state becomes another of its event, and the state after that is told
pub record IsTurn (p : Parts) (s : List Slot) (t : SlotTurn) : Type 0 where
  pub there : t.before.meet.0 < length s
  pub slot : slot_at s t.before.meet.0 ≡ t.before
  pub same : emptied t.after ≡ emptied t.before
  pub told : AreTold p s
  pub later : AreTold p (turned s t)

-- how long a meet is, where there is one
abbrev pub duration_in : Option Span → Option ℕ
duration_in span = option_map (λ (y : Span). y.duration) span

-- how long a slot's meet is, where it has one
abbrev pub duration_of : Slot → Option ℕ
duration_of x = option_map (λ (y : Span). y.duration) x.span

-- at a place a slot gives a monitor's resource a time that its rule lists
abbrev pub HasCell : Rule → Point → Slot → ℕ → Type 0
HasCell rule point x j = (r : ResourceId) × (slice_get x.given j ≡ Some (Some r)) × (is_at point r.0 ≡ true)
    × (list_any (lists_time rule) (times_of x) ≡ true)

-- at a place a slot gives a monitor's resource some workload
abbrev pub HasLoad : Rule → Point → Slot → ℕ → Type 0
HasLoad rule point x j = (r : ResourceId) × (slice_get x.given j ≡ Some (Some r)) × (is_at point r.0 ≡ true)
    × (is_workload rule ≡ true)

-- a place is given something else, or at other times
abbrev pub MovesCells : SlotTurn → ℕ → Type 0
MovesCells t j = slice_get t.before.given j ≡ slice_get t.after.given j → t.before.span ≡ t.after.span → ⊥

-- a place is given something else, or for another duration
abbrev pub MovesLoad : SlotTurn → ℕ → Type 0
MovesLoad t j = slice_get t.before.given j ≡ slice_get t.after.given j → duration_of t.before ≡ duration_of t.after → ⊥

-- what a monitor with this rule and point watches of a turn: that it is of an event that it names, that cells
-- of its resource are filled or emptied, or that the workload of its resource is altered
abbrev pub IsWatched : Parts → SlotTurn → Rule → Point → Type 0
IsWatched p t rule point = (names_event p rule point t.before.event.0 ≡ true)
    ⊎ (((j : ℕ) × MovesCells t j × (HasCell rule point t.before j ⊎ HasCell rule point t.after j))
    ⊎ ((j : ℕ) × MovesLoad t j × (HasLoad rule point t.before j ⊎ HasLoad rule point t.after j)))

-- the monitor with a number watches a turn
abbrev pub Watches : Parts → SlotTurn → ℕ → Type 0
Watches p t i = (m : Monitor) × (k : Constraint) × (slice_get p.monitors i ≡ Some m)
    × (slice_get p.constraints m.constraint ≡ Some k) × IsWatched p t k.rule m.point

-- who waits and did not before watches the turn
abbrev pub AreWatchers : Parts → SlotTurn → (ℕ → Bool) → (ℕ → Bool) → Type 0
AreWatchers p t old new = (i : ℕ) → new i ≡ true → (old i ≡ true) ⊎ Watches p t i
