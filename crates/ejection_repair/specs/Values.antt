-- The totals of a state, and its defects in order.
use Rattle.std.specs.Prelude.{ℕ, Bool, List, length}
use Rattle.khe_base.specs.Totals.{is_lower}
use Rattle.khe_base.specs.declared.sums.Totals.{Totals}
use Rattle.khe_instance.specs.Costs.{is_defect}
use Rattle.khe_instance.specs.declared.parts.Parts.{Parts}
use Rattle.khe_engine.specs.States.{State}
use Rattle.khe_engine.specs.Values.{costs, totals}
use Rattle.repair_moves.specs.Picked.{picked}

-- the costs of all monitors, and their totals
unfoldable pub costs_at : Parts → State → List ℕ
costs_at p s = costs p s

unfoldable pub totals_at : Parts → State → Totals
totals_at p s = totals p s

-- whether the first totals are lower than the second: by hard, then by soft
unfoldable pub are_lower : Totals → Totals → Bool
are_lower a b = is_lower a b

-- the defects, in the order of their numbers, from a number on
unfoldable pub defects_from : List ℕ → ℕ → List ℕ
defects_from costs from = picked (is_defect costs) from (length costs)

abbrev pub defects : List ℕ → List ℕ
defects costs = defects_from costs 0
