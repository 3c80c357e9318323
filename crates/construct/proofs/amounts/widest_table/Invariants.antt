use Rattle.construct.specs.Amounts.{AreWidest}
use Rattle.construct.proofs.amounts.widest_table.Given as goal

abbrev pub invariant-loop-number : goal.invariant-loop-number
invariant-loop-number l = AreWidest l.inst l.number l.table.items
