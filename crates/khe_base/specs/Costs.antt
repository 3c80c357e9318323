-- What a deviation costs under a weight: the product (Linear), the weight times the square (Quadratic), or the
-- weight where the deviation is above 0 (Step).
use Rattle.std.specs.Prelude.{ℕ, ◌*◌, nat_lt, if◌then◌else◌}
use Rattle.khe_base.specs.declared.costs.CostFn.{CostFn}
use Rattle.khe_base.specs.declared.costs.CostFn.TheVariants.{Linear, Quadratic, Step}

-- the cost of a deviation under a weight
abbrev pub cost_of : CostFn → ℕ → ℕ → ℕ
cost_of Linear weight deviation = weight * deviation
cost_of Quadratic weight deviation = weight * deviation * deviation
cost_of Step weight deviation = if nat_lt 0 deviation then weight else 0
