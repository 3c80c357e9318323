use Rattle.construct.specs.Amounts.{AreBoundsFrom}
use Rattle.construct.proofs.amounts.bounds_table.Given as goal

abbrev pub invariant-loop-number : goal.invariant-loop-number
invariant-loop-number l = AreBoundsFrom l.inst l.number l.table.items
