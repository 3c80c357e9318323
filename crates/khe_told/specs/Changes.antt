-- The six changes of one slot: a meet comes or goes, gets or loses its start, and a task gets or loses its resource.
-- Each has an inverse.
use Rattle.std.specs.Prelude.{ℕ, Option, Some, None, List, [], ◌∷◌, ◌++◌, slice_set}
use Rattle.std.specs.Option.{option_map}
use Rattle.khe_base.specs.declared.numbers.ResourceId.{ResourceId}
use Rattle.khe_told.specs.Slots.{slot_at}
use Rattle.khe_told.specs.declared.slots.Slot.{Slot}
use Rattle.khe_told.specs.declared.slots.Span.{Span}
use Rattle.khe_told.specs.declared.changes.Change.{Change}
use Rattle.khe_told.specs.declared.changes.Change.TheVariants.{Add, Drop, Place as PlaceAt, Lift, Give, Take}

-- the meet that a change changes, or whose task
abbrev pub meet_of : Change → ℕ
meet_of (Add m d) = m.0
meet_of (Drop m d) = m.0
meet_of (PlaceAt m t) = m.0
meet_of (Lift m t) = m.0
meet_of (Give t r) = t.meet.0
meet_of (Take t r) = t.meet.0

-- the change that leads back
abbrev pub inverse : Change → Change
inverse (Add m d) = Drop m d
inverse (Drop m d) = Add m d
inverse (PlaceAt m t) = Lift m t
inverse (Lift m t) = PlaceAt m t
inverse (Give t r) = Take t r
inverse (Take t r) = Give t r

-- a slot's meet after a change of the slot
abbrev pub span_after : Option Span → Change → Option Span
span_after y (Add m d) = Some (record { duration = d; start = None })
span_after y (Drop m d) = None
span_after y (PlaceAt m t) = option_map (λ (z : Span). record z { start = Some t }) y
span_after y (Lift m t) = option_map (λ (z : Span). record z { start = None }) y
span_after y (Give t r) = y
span_after y (Take t r) = y

-- what its places are given then
abbrev pub given_after : List (Option ResourceId) → Change → List (Option ResourceId)
given_after given (Give t r) = slice_set given t.place (Some r)
given_after given (Take t r) = slice_set given t.place None
given_after given _ = given

-- a slot after a change of it
abbrev pub changed : Slot → Change → Slot
changed x c = record x { span = span_after x.span c; given = given_after x.given c }

-- the told state after a change, and after a list of changes
abbrev pub after : List Slot → Change → List Slot
after s c = slice_set s (meet_of c) (changed (slot_at s (meet_of c)) c)

abbrev pub after_all : List Slot → List Change → List Slot
after_all s [] = s
after_all s (c ∷ cs) = after_all (after s c) cs

-- the changes that lead back
abbrev pub inverses : List Change → List Change
inverses [] = []
inverses (c ∷ cs) = inverses cs ++ inverse c ∷ []
