-- What is kept of one monitor, and what it costs.
use Rattle.std.specs.Prelude.{ℕ, ◌≡◌, ◌≤◌, Bool, false, if◌then◌else◌, List, map, length, nat_lt, slice_get, All}
use Rattle.std.specs.List.{sum_by}
use Rattle.std.specs.Option.{option_map_or}
use Rattle.khe_base.specs.Costs.{cost_of}
use Rattle.khe_base.specs.declared.limits.TheConstants.{WEIGHT, GREATEST_DEVIATION, MONITORS}
use Rattle.monitor_graph.specs.declared.lines.Line.{Line}

-- what a monitor costs: nothing where it is detached
abbrev pub line_cost : Line → ℕ
line_cost x = if x.attached then cost_of x.function x.weight x.deviation else 0

-- the cost of a required constraint is hard, that of any other soft
abbrev pub hard_cost : Line → ℕ
hard_cost x = if x.required then line_cost x else 0

abbrev pub soft_cost : Line → ℕ
soft_cost x = if x.required then 0 else line_cost x

-- the costs of all monitors
abbrev pub line_costs : List Line → List ℕ
line_costs lines = map line_cost lines

-- whether the monitor with a number costs something
abbrev pub is_defect_at : List Line → ℕ → Bool
is_defect_at lines m = option_map_or (λ (x : Line). nat_lt 0 (line_cost x)) (slice_get lines m) false

-- a line within the limits
abbrev pub IsLine : Line → Type 0
IsLine x = (x.weight ≤ WEIGHT) × (x.deviation ≤ GREATEST_DEVIATION)

-- lines with their totals
pub record AreTotalled (lines : List Line) (all_hard all_soft : ℕ) : Type 0 where
  pub few : length lines ≤ MONITORS
  pub each : All IsLine lines
  pub hard : all_hard ≡ sum_by hard_cost lines
  pub soft : all_soft ≡ sum_by soft_cost lines
