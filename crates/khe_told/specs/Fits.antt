-- Slots are told where they are the instance's, each meet ends with the last time or before, what is given has the
-- right types, and the meets of no event last longer than the event. A change fits where its slot is as the change
-- finds it and the state after it is told.
use Rattle.std.specs.Prelude.{ℕ, ◌≡◌, ◌<◌, ◌≤◌, ◌+◌, Some, None, List, [], ◌∷◌, map, length, All, IfSome, replicate}
use Rattle.std.specs.Prelude.{slice_get}
use Rattle.khe_base.specs.declared.numbers.ResourceId.{ResourceId}
use Rattle.khe_instance.specs.WellMade.{HasType}
use Rattle.khe_instance.specs.declared.parts.EventInfo.{EventInfo}
use Rattle.khe_instance.specs.declared.parts.Parts.{Parts}
use Rattle.khe_instance.specs.declared.parts.Place.{Place}
use Rattle.khe_told.specs.Slots.{IsBareIfFree, emptied, held, no_meets, slot_at}
use Rattle.khe_told.specs.Changes.{after, meet_of}
use Rattle.khe_told.specs.declared.slots.Slot.{Slot}
use Rattle.khe_told.specs.declared.slots.Span.{Span}
use Rattle.khe_told.specs.declared.changes.Change.{Change}
use Rattle.khe_told.specs.declared.changes.Change.TheVariants.{Add, Drop, Place as PlaceAt, Lift, Give, Take}

-- a live meet ends with the last time or before, and what its places are given has their types; a
-- slot without a meet has nothing given
pub record IsSlot (p : Parts) (x : Slot) : Type 0 where
  pub duration : IfSome x.span (λ y. 1 ≤ y.duration)
  pub ends : IfSome x.span (λ y. IfSome y.start (λ t. t.0 + y.duration ≤ length p.times))
  pub given : (e : EventInfo) (k : ℕ) (place : Place) (r : ResourceId) → slice_get p.events x.event.0 ≡ Some e
      → slice_get e.places k ≡ Some place
      → slice_get x.given k ≡ Some (Some r) → HasType p place.rtype r
  pub empty : IsBareIfFree x

-- a told state of an instance: its slots are the instance's, and the meets of an event last no longer
-- together than the event does
pub record AreTold (p : Parts) (s : List Slot) : Type 0 where
  pub whose : map emptied s ≡ no_meets p
  pub slots : All (IsSlot p) s
  pub durations : (e : ℕ) (event : EventInfo) → slice_get p.events e ≡ Some event → held e s ≤ event.duration

-- a slot is as a change of it finds it
abbrev pub Suits : Slot → Change → Type 0
Suits x (Add m d) = x.span ≡ None
Suits x (Drop m d) = (x.span ≡ Some (record { duration = d; start = None }))
    × (x.given ≡ replicate (length x.given) None)
Suits x (PlaceAt m t) = (d : ℕ) × (x.span ≡ Some (record { duration = d; start = None }))
Suits x (Lift m t) = (d : ℕ) × (x.span ≡ Some (record { duration = d; start = Some t }))
Suits x (Give t r) = (y : Span) × (x.span ≡ Some y) × (slice_get x.given t.place ≡ Some None)
Suits x (Take t r) = (y : Span) × (x.span ≡ Some y) × (slice_get x.given t.place ≡ Some (Some r))

-- a change can be told: its slot is there and as the change finds it, and the state after it is told
pub record Fits (p : Parts) (s : List Slot) (c : Change) : Type 0 where
  pub there : meet_of c < length s
  pub suits : Suits (slot_at s (meet_of c)) c
  pub told : AreTold p (after s c)

-- each change can be told after those before it
abbrev pub AllFit : Parts → List Slot → List Change → Type 0
AllFit p s [] = Unit {0}
AllFit p s (c ∷ cs) = Fits p s c × AllFit p (after s c) cs
