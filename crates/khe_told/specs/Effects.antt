-- What an edit would make of slots, one after the other.
use Rattle.std.specs.Prelude.{ℕ, ◌≡◌, ◌+◌, Option, Some, None, List, [], ◌∷◌, slice_set}
use Rattle.std.specs.Option.{option_map}
use Rattle.khe_base.specs.declared.numbers.ResourceId.{ResourceId}
use Rattle.khe_base.specs.declared.numbers.TimeId.{TimeId}
use Rattle.khe_instance.specs.declared.parts.Parts.{Parts}
use Rattle.khe_told.specs.Fits.{AreTold}
use Rattle.khe_told.specs.Turns.{IsTurn, SlotTurn, turned}
use Rattle.khe_told.specs.declared.effects.Regiven.{Regiven}
use Rattle.khe_told.specs.declared.slots.Slot.{Slot}
use Rattle.khe_told.specs.declared.slots.Span.{Span}

-- the told state after several turns
abbrev pub turned_all : List Slot → List SlotTurn → List Slot
turned_all s [] = s
turned_all s (t ∷ ts) = turned_all (turned s t) ts

-- one after the other they are turns, so each state between them is told
abbrev pub AreTurns : Parts → List Slot → List SlotTurn → Type 0
AreTurns p s [] = AreTold p s
AreTurns p s (t ∷ ts) = IsTurn p s t × AreTurns p (turned s t) ts

-- what the places of a meet are given where one may be given something else
abbrev pub given_with : List (Option ResourceId) → Option Regiven → List (Option ResourceId)
given_with given None = given
given_with given (Some r) = slice_set given r.place r.resource

-- a slot becomes one with this meet and these resources
abbrev pub effect_on : Slot → Option Span → List (Option ResourceId) → SlotTurn
effect_on x span given = record { before = x; after = record x { span = span; given = given } }

-- one slot or two
abbrev pub effects_of : SlotTurn → Option SlotTurn → List SlotTurn
effects_of first None = first ∷ []
effects_of first (Some second) = first ∷ second ∷ []

-- a meet becomes shorter, and a free slot of its event gets the rest, straight after it and with the same resources
pub record IsCut (a b : SlotTurn) : Type 0 where
  pub cut : ℕ
  pub rest : ℕ
  pub start : Option TimeId
  pub whole : a.before.span ≡ Some (record { duration = cut + rest; start = start })
  pub first : a.after.span ≡ Some (record { duration = cut; start = start })
  pub free : b.before.span ≡ None
  pub second : b.after.span ≡ Some (record { duration = rest; start = option_map (λ (t : TimeId). record { 0 = t.0 + cut }) start })
  pub event : b.before.event ≡ a.before.event
  pub given : a.after.given ≡ a.before.given
  pub same : b.after.given ≡ a.before.given

-- two turns that cut a meet
abbrev pub AreCut : List SlotTurn → Type 0
AreCut (a ∷ b ∷ []) = IsCut a b
AreCut _ = ⊥
