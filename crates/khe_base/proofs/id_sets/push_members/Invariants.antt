-- The numbers of the places so far were added.
use Rattle.std.proofs.Common.{◌≡◌, ◌++◌}
use Rattle.khe_base.specs.StoredSets.{members_in}
use Rattle.khe_base.proofs.id_sets.push_members.Given as goal

abbrev pub invariant-loop-place : goal.invariant-loop-place
invariant-loop-place l = l.members ≡ l.fn.members ++ members_in l.word l.first l.place
