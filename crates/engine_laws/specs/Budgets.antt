-- What a repair with a large budget says.
use Rattle.std.specs.Prelude.{ℕ, ◌*◌, ◌≡◌, ◌<◌, ◌≤◌, ◌⊎◌, true, length}
use Rattle.ejection_repair.specs.Bounds.{most_moves}
use Rattle.ejection_repair.specs.Repaired.{repaired}
use Rattle.ejection_repair.specs.Settled.{IsSettled}
use Rattle.ejection_repair.specs.Values.{are_lower, totals_at}
use Rattle.khe_engine.specs.States.{State}
use Rattle.khe_instance.specs.WellMade.{AreWellMade}
use Rattle.khe_instance.specs.declared.parts.Parts.{Parts}
use Rattle.khe_told.specs.Valid.{AreValid}

-- the first state has lower totals than the second, or no chain of one move lowers its totals
abbrev pub IsLowerOrSettled : Parts → State → State → Type 0
IsLowerOrSettled p u s = (are_lower (totals_at p u) (totals_at p s) ≡ true) ⊎ IsSettled p u 1

-- where a repair may try more chains than the monitors have moves, each as many as a list may have at most, it
-- leaves such a state, whatever the depth and the diversifier
abbrev pub LargeBudgetsTell : Type 0
LargeBudgetsTell = (p : Parts) (s : State) (depth budget v : ℕ) → AreWellMade p → AreValid p s.slots → 1 ≤ depth
    → length p.monitors * most_moves p < budget
    → IsLowerOrSettled p (repaired p s depth budget v).state s
