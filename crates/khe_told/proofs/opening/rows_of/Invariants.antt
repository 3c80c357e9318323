-- The rows of the slots so far are there.
use Rattle.khe_told.proofs.OpeningLaws.{IsOpened}
use Rattle.khe_told.proofs.opening.rows_of.Given as goal

abbrev pub invariant-loop-number : goal.invariant-loop-number
invariant-loop-number l = IsOpened l.inst l.rows.items l.number
