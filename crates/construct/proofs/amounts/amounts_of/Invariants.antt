use Rattle.construct.specs.Amounts.{AreAmounts}
use Rattle.construct.proofs.amounts.amounts_of.Given as goal

abbrev pub invariant-loop-number : goal.invariant-loop-number
invariant-loop-number l = AreAmounts l.inst l.number l.amounts.items
