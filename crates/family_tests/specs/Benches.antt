-- A family beside the deviations that were measured, so that a test can ask whether a change fits.
use Rattle.std.specs.Prelude.{ℕ, ◌≡◌, ◌<◌, Bool, true, false, Option, Some, None, List, length, slice_get, slice_index}
use Rattle.khe_base.specs.declared.numbers.ResourceId.{ResourceId}
use Rattle.khe_base.specs.declared.numbers.TimeId.{TimeId}
use Rattle.khe_instance.specs.WellMade.{HasType}
use Rattle.khe_instance.specs.declared.parts.EventInfo.{EventInfo}
use Rattle.khe_instance.specs.declared.parts.Parts.{Parts}
use Rattle.khe_instance.specs.declared.parts.Place.{Place}
use Rattle.khe_instance.specs.declared.rules.Kind.{Kind}
use Rattle.khe_instance.specs.declared.points.Monitor.{Monitor}
use Rattle.khe_told.specs.Agreement.{Agrees, deviation_in}
use Rattle.khe_told.specs.Fits.{AreTold}
use Rattle.khe_told.specs.Slots.{held}
use Rattle.khe_told.specs.declared.slots.Slot.{Slot}
use Rattle.khe_told.specs.declared.slots.Span.{Span}

-- how long the meets of each event last together
pub record AreHeld (p : Parts) (s : List Slot) (amounts : List ℕ) : Type 0 where
  pub events : length amounts ≡ length p.events
  pub each : (e : ℕ) → e < length p.events → slice_index amounts e ≡ held e s

-- a told state, and the deviations of the monitors of the served kinds in it
pub record IsBench (p : Parts) (served : Kind → Bool) (s : List Slot) (amounts deviations : List ℕ) : Type 0 where
  pub told : AreTold p s
  pub held_all : AreHeld p s amounts
  pub monitors : length deviations ≡ length p.monitors
  pub agrees : Agrees p served s deviations

-- a resource has the type of a place of a slot
abbrev pub MayHave : Parts → Slot → ℕ → ResourceId → Type 0
MayHave p x k r = (e : EventInfo) (place : Place) → slice_get p.events x.event.0 ≡ Some e
    → slice_get e.places k ≡ Some place → HasType p place.rtype r

-- the deviation of each served monitor that does not wait is that of the told state
abbrev pub IsAwaited : Parts → (Kind → Bool) → List Slot → (ℕ → Bool) → List ℕ → Type 0
IsAwaited p served s waits deviations = (i : ℕ) (m : Monitor) → slice_get p.monitors i ≡ Some m
    → served m.kind ≡ true → waits i ≡ false → slice_get deviations i ≡ Some (deviation_in p s m)

-- the duration of a meet without a start
abbrev pub lasts_unless : ℕ → Option TimeId → Option ℕ
lasts_unless d None = Some d
lasts_unless d (Some t) = None

abbrev pub unplaced : Option Span → Option ℕ
unplaced None = None
unplaced (Some y) = lasts_unless y.duration y.start

-- a place that is there and given nothing
abbrev pub is_open : Option (Option ResourceId) → Bool
is_open None = false
is_open (Some None) = true
is_open (Some (Some r)) = false

-- one number is the deviation of its monitor, if that is served, and all others are as they were
pub record IsSetFor (p : Parts) (served : Kind → Bool) (s : List Slot) (k : ℕ) (old new : List ℕ) : Type 0 where
  pub amount : length new ≡ length old
  pub own : (m : Monitor) → slice_get p.monitors k ≡ Some m → served m.kind ≡ true
      → slice_get new k ≡ Some (deviation_in p s m)
  pub others : (i : ℕ) → (i ≡ k → ⊥) → slice_get new i ≡ slice_get old i
