use Rattle.demand_matching.specs.Order.{IsCountedUp}
use Rattle.demand_matching.proofs.order.numbers.Given as goal

abbrev pub invariant-loop-n : goal.invariant-loop-n
invariant-loop-n l = IsCountedUp l.n l.numbers.items
