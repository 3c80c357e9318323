-- So far the table finds each role that is wanted.
use Rattle.std.proofs.Common.{take}
use Rattle.xhstt_completion.specs.Tables.{Finds, wanted_roles}
use Rattle.xhstt_completion.proofs.many.roles_wanted.Given as goal

abbrev pub invariant-loop-number : goal.invariant-loop-number
invariant-loop-number l = Finds l.table (wanted_roles l.given (take l.number l.places))
