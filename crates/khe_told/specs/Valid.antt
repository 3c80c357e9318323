-- Slots are valid where every event is placed whole, an event with a preassigned time has one meet that starts then,
-- and a place with a preassigned resource has it.
use Rattle.std.specs.Prelude.{ℕ, ◌≡◌, ◌<◌, true, Some, List, length, map, slice_get, All}
use Rattle.std.specs.List.Sorted.{IsStrictlyIncreasing}
use Rattle.khe_base.specs.declared.numbers.ResourceId.{ResourceId}
use Rattle.khe_base.specs.declared.numbers.TimeId.{TimeId}
use Rattle.khe_instance.specs.Lookups.{place_at}
use Rattle.khe_instance.specs.States.{IsGroup}
use Rattle.khe_instance.specs.declared.parts.EventInfo.{EventInfo}
use Rattle.khe_instance.specs.declared.parts.Parts.{Parts}
use Rattle.khe_instance.specs.declared.parts.Place.{Place}
use Rattle.khe_instance.specs.declared.states.Plain.{Plain}
use Rattle.khe_told.specs.Fits.{AreTold}
use Rattle.khe_told.specs.Slots.{given_at, held, is_live, length_of, start_of}
use Rattle.khe_told.specs.declared.slots.Slot.{Slot}

-- a live meet of an event with a preassigned time starts then, and is the only one, since it is as
-- long as the event
abbrev pub IsFixedAs : ℕ → TimeId → ℕ → Slot → Type 0
IsFixedAs e t duration x = x.event.0 ≡ e → is_live x ≡ true → (start_of x ≡ Some t) × (length_of x ≡ duration)

-- a place with a preassigned resource has it
abbrev pub IsKeptBy : Parts → Slot → Type 0
IsKeptBy p x = (k : ℕ) (place : Place) (r : ResourceId) → place_at p.events x.event.0 k ≡ Some place
    → place.fixed ≡ Some r → is_live x ≡ true → given_at x k ≡ Some r

-- the meets of each event last as long as it does; an event with a preassigned time has one meet,
-- which starts then; and a place with a preassigned resource has it
pub record AreValid (p : Parts) (s : List Slot) : Type 0 where
  pub told : AreTold p s
  pub whole : (e : ℕ) (event : EventInfo) → slice_get p.events e ≡ Some event → held e s ≡ event.duration
  pub fixed : (e : ℕ) (event : EventInfo) (t : TimeId) → slice_get p.events e ≡ Some event → event.fixed ≡ Some t
      → All (IsFixedAs e t event.duration) s
  pub kept : All (IsKeptBy p) s

-- what is asked of a Plain's detached monitors and groups, which slots say nothing of
pub record AreMonitorsKept (p : Parts) (s : Plain) : Type 0 where
  pub detached : All (λ m. m.0 < length p.monitors) s.detached
  pub detached_once : IsStrictlyIncreasing (map (λ m. m.0) s.detached)
  pub groups : All (IsGroup p) s.groups
  pub groups_once : IsStrictlyIncreasing (map (λ g. g.group.0) s.groups)
