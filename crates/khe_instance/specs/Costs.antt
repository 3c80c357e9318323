-- What monitors cost by their deviations, whatever timetable these are of: the cost of each, which are defects, and
-- the totals of all or of some. A detached monitor costs nothing.
use Rattle.std.specs.Prelude.{ℕ, Bool, false, nat_lt, if◌then◌else◌, List, map, length, slice_get, slice_index}
use Rattle.std.specs.List.{sum_by, range_with_len}
use Rattle.std.specs.Option.{option_map_or}
use Rattle.khe_base.specs.Costs.{cost_of}
use Rattle.khe_base.specs.declared.sums.Totals.{Totals}
use Rattle.khe_instance.specs.declared.parts.Parts.{Parts}
use Rattle.khe_instance.specs.declared.points.Monitor.{Monitor}

-- what a monitor costs by its deviation: nothing where it is detached
abbrev pub monitor_cost : Parts → Bool → Monitor → ℕ → ℕ
monitor_cost parts detached m deviation =
    if detached then 0 else option_map_or (λ c. cost_of c.cost c.weight deviation)
    (slice_get parts.constraints m.constraint) 0

-- whether the cost of a monitor is hard: its constraint is required
abbrev pub is_hard : Parts → Monitor → Bool
is_hard parts m = option_map_or (λ c. c.required) (slice_get parts.constraints m.constraint) false

-- the cost of the monitor with a number, by which are detached and by the deviations of all
abbrev pub cost_at : Parts → (ℕ → Bool) → List ℕ → ℕ → ℕ
cost_at parts detached deviations n =
    option_map_or (λ m. monitor_cost parts (detached n) m (slice_index deviations n)) (slice_get parts.monitors n) 0

-- the costs of all monitors
abbrev pub costs_of : Parts → (ℕ → Bool) → List ℕ → List ℕ
costs_of parts detached deviations = map (cost_at parts detached deviations) (range_with_len 0 (length parts.monitors))

-- whether the cost of the monitor with a number is hard
abbrev pub is_hard_at : Parts → ℕ → Bool
is_hard_at parts n = option_map_or (is_hard parts) (slice_get parts.monitors n) false

-- a monitor is a defect where its cost, one of the costs of all, is above 0
abbrev pub is_defect : List ℕ → ℕ → Bool
is_defect costs n = nat_lt 0 (slice_index costs n)

-- the costs of some monitors, added up: those of required constraints are hard, those of all others
-- are soft
abbrev pub totals_among : Parts → List ℕ → List ℕ → Totals
totals_among parts costs numbers = record {
  hard = sum_by (λ n. if is_hard_at parts n then slice_index costs n else 0) numbers;
  soft = sum_by (λ n. if is_hard_at parts n then 0 else slice_index costs n) numbers;
}

-- the costs of all monitors, added up
abbrev pub totals_of : Parts → List ℕ → Totals
totals_of parts costs = totals_among parts costs (range_with_len 0 (length parts.monitors))
