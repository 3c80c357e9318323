-- The moves of a monitor in a state, in the order in which they are tried: part by part, item by item, choice
-- by choice, where the table of edits accepts them.
use Rattle.std.specs.Prelude.{ℕ, ◌+◌, ◌-◌, Bool, is_none, is_some, if◌then◌else◌, List, [], map, length, slice_get}
use Rattle.std.specs.List.{flat_map}
use Rattle.std.specs.Option.{option_map_or}
use Rattle.khe_base.specs.declared.numbers.ResourceId.{ResourceId}
use Rattle.khe_base.specs.declared.numbers.TaskId.{TaskId}
use Rattle.khe_instance.specs.declared.parts.Parts.{Parts}
use Rattle.khe_instance.specs.declared.points.Monitor.{Monitor}
use Rattle.khe_instance.specs.declared.points.Point.{Point}
use Rattle.khe_instance.specs.declared.points.Point.TheVariants.{Resource}
use Rattle.khe_instance.specs.declared.rules.Constraint.{Constraint}
use Rattle.khe_instance.specs.declared.rules.Rule.{Rule}
use Rattle.khe_told.specs.Slots.{slot_at, length_of}
use Rattle.khe_told.specs.declared.edits.Edit.{Edit}
use Rattle.khe_told.specs.declared.edits.Edit.TheVariants.{Assign, MoveTo, Split, Merge, SwapMeets, Give, Regive}
use Rattle.khe_told.specs.declared.edits.Edit.TheVariants.{SwapTasks}
use Rattle.khe_told.specs.declared.slots.Slot.{Slot}
use Rattle.khe_solution.specs.Reading.{is_placed, resource_at}
use Rattle.khe_solution.specs.Refusing.{refusal}
use Rattle.repair_moves.specs.Items.{is_item, item_slots, meet_slots, task_slots, task_at}
use Rattle.repair_moves.specs.Picked.{picked}
use Rattle.repair_moves.specs.Table.{parts_of}
use Rattle.repair_moves.specs.declared.parts.Part.{Part}
use Rattle.repair_moves.specs.declared.parts.Part.TheVariants.{TimeMoves, SwapMoves, Cuts, Joins, TaskMoves, TradeMoves}
use Rattle.repair_moves.specs.declared.parts.Part.TheVariants.{Gives}

-- a meet without a start is assigned to a time, and one with a start is moved there
abbrev pub time_move : List Slot → ℕ → ℕ → Edit
time_move s n t = if is_placed (slot_at s n) then MoveTo (record { 0 = n }) (record { 0 = t }) else Assign
    (record { 0 = n }) (record { 0 = t })

-- a task without a resource is given one, and one with a resource is given another
abbrev pub task_move : List Slot → TaskId → ℕ → Edit
task_move s t r = if is_some (resource_at s t) then Regive t (record { 0 = r }) else Give t (record { 0 = r })

-- the resource of a point at a resource
abbrev pub resource_of : Point → ResourceId
resource_of (Resource r) = r
resource_of _ = record { 0 = 0 }

-- how many choices a part has for the meet or the task of a slot: each time, each other meet, each
-- shorter duration, each resource, each other task, or the point's resource alone
unfoldable pub choices : Parts → List Slot → Part → ℕ → ℕ
choices p s TimeMoves n = length p.times
choices p s SwapMoves n = meet_slots p
choices p s Cuts n = length_of (slot_at s n) - 1
choices p s Joins n = meet_slots p
choices p s TaskMoves n = length p.resources
choices p s TradeMoves n = task_slots p
choices p s Gives n = 1

-- the edit of a choice, by its number
unfoldable pub edit_of : Parts → List Slot → Point → Part → ℕ → ℕ → Edit
edit_of p s point TimeMoves n k = time_move s n k
edit_of p s point SwapMoves n k = SwapMeets (record { 0 = n }) (record { 0 = k })
edit_of p s point Cuts n k = Split (record { 0 = n }) (k + 1)
edit_of p s point Joins n k = Merge (record { 0 = n }) (record { 0 = k })
edit_of p s point TaskMoves n k = task_move s (task_at p n) k
edit_of p s point TradeMoves n k = SwapTasks (task_at p n) (task_at p k)
edit_of p s point Gives n k = Give (task_at p n) (resource_of point)

-- only what the table of edits accepts is a move: so each slot without a live meet is left out, too
unfoldable pub is_accepted : Parts → List Slot → Edit → Bool
is_accepted p s e = is_none (refusal p s e)

abbrev pub is_choice : Parts → List Slot → Point → Part → ℕ → ℕ → Bool
is_choice p s point part n k = is_accepted p s (edit_of p s point part n k)

-- the moves of a part for one meet or task, from a choice on
unfoldable pub choices_from : Parts → List Slot → Point → Part → ℕ → ℕ → List Edit
choices_from p s point part n from = map (edit_of p s point part n)
    (picked (is_choice p s point part n) from (choices p s part n))

-- the meets or tasks of a part, from a slot on
unfoldable pub items_from : Parts → List Slot → Rule → Point → Part → ℕ → List ℕ
items_from p s rule point part from = picked (is_item p s rule point part) from (item_slots p part)

-- the moves of a part, from a slot on: for all its meets or tasks in order, each once
unfoldable pub part_from : Parts → List Slot → Rule → Point → Part → ℕ → List Edit
part_from p s rule point part from = flat_map (λ n. choices_from p s point part n 0)
    (items_from p s rule point part from)

-- the moves of a monitor: part by part, in the order of its kind's row
unfoldable pub moves_under : Parts → List Slot → Monitor → Constraint → List Edit
moves_under p s m c = flat_map (λ part. part_from p s c.rule m.point part 0) (parts_of m.kind)

unfoldable pub moves_of : Parts → List Slot → Monitor → List Edit
moves_of p s m = option_map_or (moves_under p s m) (slice_get p.constraints m.constraint) []

-- the moves of the monitor with a number
unfoldable pub moves : Parts → List Slot → ℕ → List Edit
moves p s n = option_map_or (moves_of p s) (slice_get p.monitors n) []
