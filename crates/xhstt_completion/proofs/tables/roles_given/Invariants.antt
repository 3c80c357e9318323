-- So far the table finds each role.
use Rattle.std.proofs.Common.{map, take}
use Rattle.xhstt_completion.specs.Entries.{role_of}
use Rattle.xhstt_completion.specs.Tables.{Finds}
use Rattle.xhstt_completion.proofs.tables.roles_given.Given as goal

abbrev pub invariant-loop-number : goal.invariant-loop-number
invariant-loop-number l = Finds l.table (map role_of (take l.number l.given))
