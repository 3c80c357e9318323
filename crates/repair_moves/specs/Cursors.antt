-- What is left of a monitor's list of moves from a cursor on, in any state.
use Rattle.std.specs.Prelude.{ℕ, ◌+◌, ◌^◌, ◌<◌, ◌≡◌, Option, Some, None, List, [], ◌∷◌, ◌++◌, drop, length, slice_get}
use Rattle.std.specs.List.{flat_map}
use Rattle.std.specs.Option.{option_map_or}
use Rattle.khe_instance.specs.declared.parts.Parts.{Parts}
use Rattle.khe_instance.specs.declared.points.Monitor.{Monitor}
use Rattle.khe_instance.specs.declared.points.Point.{Point}
use Rattle.khe_instance.specs.declared.rules.Constraint.{Constraint}
use Rattle.khe_instance.specs.declared.rules.Rule.{Rule}
use Rattle.khe_told.specs.declared.edits.Edit.{Edit}
use Rattle.khe_told.specs.declared.slots.Slot.{Slot}
use Rattle.repair_moves.specs.Moves.{choices_from, part_from}
use Rattle.repair_moves.specs.Table.{parts_of}
use Rattle.repair_moves.specs.declared.cursors.Cursor.{Cursor}
use Rattle.repair_moves.specs.declared.cursors.Spot.{Spot}
use Rattle.repair_moves.specs.declared.parts.Part.{Part}

-- from a place inside a part on
unfoldable pub left_of_part : Parts → List Slot → Rule → Point → Part → Spot → List Edit
left_of_part p s rule point part spot = from spot.choice
  where
    from : Option ℕ → List Edit
    from None = part_from p s rule point part spot.item
    from (Some k) = choices_from p s point part spot.item k ++ part_from p s rule point part (spot.item + 1)

-- in the first of these parts from a place on, and in the parts after it
unfoldable pub left_of_parts : Parts → List Slot → Rule → Point → List Part → Spot → List Edit
left_of_parts p s rule point [] spot = []
left_of_parts p s rule point (part ∷ parts) spot =
    left_of_part p s rule point part spot ++ flat_map (λ part. part_from p s rule point part 0) parts

unfoldable pub ahead_under : Parts → List Slot → Cursor → Monitor → Constraint → List Edit
ahead_under p s c m k = left_of_parts p s k.rule m.point (drop c.part (parts_of m.kind)) c.spot

unfoldable pub ahead_of : Parts → List Slot → Cursor → Monitor → List Edit
ahead_of p s c m = option_map_or (ahead_under p s c m) (slice_get p.constraints m.constraint) []

-- the moves of a cursor's monitor in a state, from the cursor's place on
unfoldable pub ahead : Parts → List Slot → Cursor → List Edit
ahead p s c = option_map_or (ahead_of p s c) (slice_get p.monitors c.monitor.0) []

-- a cursor is in some list of the instance
pub record IsCursor (p : Parts) (c : Cursor) : Type 0 where
  pub monitor : c.monitor.0 < length p.monitors
  pub item : c.spot.item + 1 < 2 ^ 32

-- the first of a list is taken off, or there is none
abbrev pub IsNext : Option Edit → List Edit → List Edit → Type 0
IsNext None before after = (before ≡ []) × (after ≡ [])
IsNext (Some e) before after = before ≡ e ∷ after
