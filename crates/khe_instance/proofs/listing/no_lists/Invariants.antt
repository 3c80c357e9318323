-- So many lists so far.
use Rattle.std.proofs.Common.{◌≡◌, replicate, []}
use Rattle.khe_instance.proofs.listing.no_lists.Given as goal

abbrev pub invariant-loop : goal.invariant-loop
invariant-loop l = l.lists ≡ replicate l.counter []
