-- The meets and tasks that a chain moved; none may be moved twice.
use Rattle.std.specs.Prelude.{◌==◌, ◌&&◌, Bool, false, not, List, take}
use Rattle.std.specs.List.{list_any}
use Rattle.khe_told.specs.declared.edits.Edit.{Edit}
use Rattle.khe_told.specs.declared.slots.Slot.{Slot}
use Rattle.repair_moves.specs.Moved.{moved_by}
use Rattle.repair_moves.specs.declared.moved.Moved.{Moved}
use Rattle.repair_moves.specs.declared.moved.Moved.TheVariants.{Meet, Task}
use Rattle.ejection_repair.specs.declared.trails.Trail.{Trail}

-- whether two are the same meet or the same task
abbrev pub is_same : Moved → Moved → Bool
is_same (Meet a) (Meet b) = a.0 == b.0
is_same (Task a) (Task b) = (a.meet.0 == b.meet.0) && (a.place == b.place)
is_same (Meet a) (Task b) = false
is_same (Task a) (Meet b) = false

-- whether a meet or task is among the ones that were moved
unfoldable pub was_moved : List Moved → Moved → Bool
was_moved moved x = list_any (is_same x) moved

-- whether a move moves nothing that was moved before
unfoldable pub is_fresh : List Slot → List Moved → Edit → Bool
is_fresh s moved e = not (list_any (was_moved moved) (moved_by s e))

-- what a trail holds
unfoldable pub moved_of : Trail → List Moved
moved_of t = take t.count t.items
