-- Costs of two tasks with two resources, and prices for them.
use Rattle.std.specs.Prelude.{ℕ, pos, neg_ℤ, Some, [], ◌∷◌}
use Rattle.khe_base.specs.declared.sums.Totals.{Totals}
use Rattle.resource_match.specs.declared.choices.Cheapest.{Cheapest}
use Rattle.resource_match.specs.declared.choices.Costs.{Costs}
use Rattle.resource_match.specs.declared.prices.Price.{Price}

abbrev pub hard : ℕ → Totals
hard n = record { hard = n; soft = 0 }

-- each task costs 9 with no resource, the first one 1 and 2 with a resource, the second one 1 and 5
abbrev pub two_by_two : Costs
two_by_two = record {
  tasks = 2;
  resources = 2;
  none = hard 9 ∷ hard 9 ∷ [];
  pairs = hard 1 ∷ hard 2 ∷ hard 1 ∷ hard 5 ∷ [];
}

abbrev pub price : ℕ → Price
price n = record { hard = pos n; soft = pos 0 }

-- the tasks' prices are 2 each, that of the first resource is 1 below 0
abbrev pub bounds : Cheapest
bounds = record {
  chosen = Some 1 ∷ Some 0 ∷ [];
  task_prices = price 2 ∷ price 2 ∷ [];
  resource_prices = (record { hard = neg_ℤ (pos 1); soft = pos 0 }) ∷ price 0 ∷ [];
}
