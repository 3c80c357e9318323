-- By the laws on states.
use Rattle.engine_laws.proofs.BudgetLaws.{budget_tells}
use Rattle.engine_laws.proofs.laws.large_budgets_tell.Goals as goal

pub returns : goal.returns
returns c = budget_tells
