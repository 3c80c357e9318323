-- The costs, totals, defects and group costs of a board, by khe_instance's definitions.
use Rattle.std.specs.Prelude.{ℕ, ◌≡◌, ◌<◌, ◌≤◌, Bool, true, false, not, Option, Some, None, List, map}
use Rattle.std.specs.Option.{option_map}
use Rattle.khe_base.specs.declared.numbers.MonitorId.{MonitorId}
use Rattle.khe_base.specs.declared.sums.Totals.{Totals}
use Rattle.khe_instance.specs.Costs.{costs_of, is_defect, totals_among}
use Rattle.khe_instance.specs.declared.parts.Parts.{Parts}
use Rattle.monitor_graph.specs.Boards.{Board, grouping_of, deviations_of, rates_of}
use Rattle.monitor_graph.specs.Dearer.{dearer, only}
use Rattle.monitor_graph.specs.Edits.{is_attached}
use Rattle.monitor_graph.specs.Groups.{children_at}
use Rattle.monitor_graph.specs.Opened.{rates_in}

-- the graph is one of the monitors of these parts
abbrev pub IsOf : Board → Parts → Type 0
IsOf b p = rates_of b ≡ rates_in p

abbrev pub is_detached : Board → ℕ → Bool
is_detached b m = not (is_attached (grouping_of b) m)

-- the costs of its monitors
abbrev pub costs_in : Parts → Board → List ℕ
costs_in p b = costs_of p (is_detached b) (deviations_of b)

-- what a group costs
abbrev pub group_totals : Parts → Board → ℕ → Totals
group_totals p b g = totals_among p (costs_in p b) (map (λ c. c.0) (children_at b.groups g))

-- no monitor of these numbers is a defect
abbrev pub NoDefects : List ℕ → ℕ → ℕ → Type 0
NoDefects costs from to = (m : ℕ) → from ≤ m → m < to → is_defect costs m ≡ false

-- the first defect from a number on, if there is one
abbrev pub IsNextDefect : List ℕ → ℕ → Option MonitorId → Type 0
IsNextDefect costs from None = (m : ℕ) → from ≤ m → is_defect costs m ≡ false
IsNextDefect costs from (Some r) = (from ≤ r.0) × (is_defect costs r.0 ≡ true) × NoDefects costs from r.0

-- the only monitor that costs more than marked
abbrev pub only_dearer : Parts → Board → Option MonitorId
only_dearer p b = option_map (λ m. record { 0 = m }) (only (dearer b.marked (costs_in p b)))
