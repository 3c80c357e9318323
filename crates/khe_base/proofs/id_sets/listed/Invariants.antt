-- The members so far are those of the words so far.
use Rattle.std.proofs.Common.{◌≡◌, ◌*◌}
use Rattle.khe_base.specs.StoredSets.{members_below}
use Rattle.khe_base.proofs.id_sets.listed.Given as goal

abbrev pub invariant-loop-k : goal.invariant-loop-k
invariant-loop-k l = l.members ≡ members_below l.words (64 * l.k)
