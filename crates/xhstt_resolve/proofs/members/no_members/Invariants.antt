-- So many empty lists were made.
use Rattle.std.proofs.Common.{◌≡◌, [], replicate}
use Rattle.xhstt_resolve.proofs.members.no_members.Given as goal

abbrev pub invariant-loop : goal.invariant-loop
invariant-loop l = l.lists.items ≡ replicate l.counter []
