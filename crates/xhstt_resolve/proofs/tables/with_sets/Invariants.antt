-- The lists that are left stand after the members so far.
use Rattle.std.proofs.Common.{◌≡◌, ◌++◌}
use Rattle.xhstt_resolve.proofs.tables.with_sets.Given as goal

abbrev pub invariant-loop-list : goal.invariant-loop-list
invariant-loop-list l = l.members ++ l.list-iterator.rest.items ≡ l.fn.lists
