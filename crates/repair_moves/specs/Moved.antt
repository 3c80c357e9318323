-- What an edit moves: a meet or a task, two of them, or a meet that is cut with its new one.
use Rattle.std.specs.Prelude.{List, [], ◌∷◌}
use Rattle.khe_told.specs.Slots.{slot_at}
use Rattle.khe_told.specs.declared.edits.Edit.{Edit}
use Rattle.khe_told.specs.declared.edits.Edit.TheVariants.{Assign, Unassign, MoveTo, Split, Merge, SwapMeets, Give}
use Rattle.khe_told.specs.declared.edits.Edit.TheVariants.{Take, Regive, SwapTasks}
use Rattle.khe_told.specs.declared.slots.Slot.{Slot}
use Rattle.khe_solution.specs.Reading.{free_slot}
use Rattle.repair_moves.specs.declared.moved.Moved.{Moved}
use Rattle.repair_moves.specs.declared.moved.Moved.TheVariants.{Meet, Task}

-- a meet or a task, two of them, or the meet that is cut and the new one
unfoldable pub moved_by : List Slot → Edit → List Moved
moved_by s (Assign m t) = Meet m ∷ []
moved_by s (Unassign m) = Meet m ∷ []
moved_by s (MoveTo m t) = Meet m ∷ []
moved_by s (Split m cut) = Meet m ∷ Meet (record { 0 = free_slot s (slot_at s m.0).event.0 }) ∷ []
moved_by s (Merge a b) = Meet a ∷ Meet b ∷ []
moved_by s (SwapMeets a b) = Meet a ∷ Meet b ∷ []
moved_by s (Give t r) = Task t ∷ []
moved_by s (Take t) = Task t ∷ []
moved_by s (Regive t r) = Task t ∷ []
moved_by s (SwapTasks a b) = Task a ∷ Task b ∷ []
moved_by s _ = []
