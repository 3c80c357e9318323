-- The states and marks of a short course of edits: a mark, an edit, a mark inside it, and two more edits.
use Rattle.std.specs.Prelude.{None, Some, [], ◌∷◌}
use Rattle.khe_told.specs.declared.changes.Change.TheVariants.{Give, Place}
use Rattle.khe_engine.specs.States.{State}
use Rattle.khe_engine.specs.Worlds.{Saved}
use Rattle.worked_examples.specs.School.{at, blank, has, resource, state, task, time, meet, whole}

-- the states at the two marks, and the one after all edits
abbrev pub first : State
first = state blank

abbrev pub second : State
second = state (whole (at 0) None None None)

abbrev pub last : State
last = record { slots = whole (at 0) (has 0) None None; grouping = record second.grouping { groups = Some [] ∷ None ∷ [] } }

-- the marks: the inner one after the edits inside it, and the outer one after the edit before that
abbrev pub inner : Saved
inner = record { state = second; trail = Give (task 0) (resource 0) ∷ []; records = 2 }

abbrev pub outer : Saved
outer = record { state = first; trail = Place (meet 0) (time 0) ∷ []; records = 1 }
