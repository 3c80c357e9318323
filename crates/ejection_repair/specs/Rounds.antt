-- What a walk round a list has ahead.
use Rattle.std.specs.Prelude.{ℕ, ◌+◌, ◌≡◌, if◌then◌else◌, Option, Some, None, List, [], ◌∷◌, ◌++◌, take}
use Rattle.khe_base.specs.declared.numbers.MonitorId.{MonitorId}
use Rattle.khe_instance.specs.declared.parts.Parts.{Parts}
use Rattle.khe_told.specs.declared.edits.Edit.{Edit}
use Rattle.khe_told.specs.declared.slots.Slot.{Slot}
use Rattle.repair_moves.specs.Cursors.{ahead, IsCursor}
use Rattle.ejection_repair.specs.Values.{defects_from}
use Rattle.ejection_repair.specs.declared.rounds.DefectRound.{DefectRound}
use Rattle.ejection_repair.specs.declared.rounds.MoveRound.{MoveRound}

-- of the moves of a monitor
unfoldable pub moves_ahead : Parts → List Slot → MoveRound → List Edit
moves_ahead p s r = if r.wrapped then take r.before (ahead p s r.cursor) else ahead p s r.cursor
    ++ take r.before (ahead p s r.first)

-- both places are in lists of the instance
pub record IsRound (p : Parts) (r : MoveRound) : Type 0 where
  pub cursor : IsCursor p r.cursor
  pub first : IsCursor p r.first

-- of the defects
unfoldable pub defects_ahead : List ℕ → DefectRound → List ℕ
defects_ahead costs r = if r.wrapped then take r.before (defects_from costs r.from) else defects_from costs r.from
    ++ take r.before (defects_from costs 0)

-- the head of a list of numbers is taken off, or there is none
abbrev pub IsNextNumber : Option MonitorId → List ℕ → List ℕ → Type 0
IsNextNumber None before after = (before ≡ []) × (after ≡ [])
IsNextNumber (Some m) before after = before ≡ m.0 ∷ after

-- the first of the defects from a number on, or there is none
abbrev pub IsFirstDefect : Option MonitorId → List ℕ → ℕ → Type 0
IsFirstDefect None costs from = defects_from costs from ≡ []
IsFirstDefect (Some m) costs from = defects_from costs from ≡ m.0 ∷ defects_from costs (m.0 + 1)
