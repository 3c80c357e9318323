-- Edits that move no meet leave followers and leaders where they are.
use Rattle.std.specs.Prelude.{Bool, true, false}
use Rattle.khe_told.specs.declared.edits.Edit.{Edit}
use Rattle.khe_told.specs.declared.edits.Edit.TheVariants.{Assign, Unassign, MoveTo, SwapMeets}

abbrev pub is_still : Edit → Bool
is_still (Assign m t) = false
is_still (Unassign m) = false
is_still (MoveTo m t) = false
is_still (SwapMeets a b) = false
is_still _ = true
