-- A state of a small timetable, for examples.
use Rattle.std.specs.Prelude.{true, List, [], ◌∷◌}
use Rattle.khe_told.specs.declared.slots.Slot.{Slot}
use Rattle.khe_engine.specs.States.{State}

-- all of its four monitors are attached, and there are no groups
abbrev pub state_of : List Slot → State
state_of slots = record { slots = slots; grouping = record { attached = true ∷ true ∷ true ∷ true ∷ []; groups = [] } }
