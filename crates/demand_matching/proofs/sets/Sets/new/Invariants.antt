use Rattle.std.proofs.Common.{◌≡◌, take, map}
use Rattle.khe_base.specs.IdSet.{members_of}
use Rattle.demand_matching.proofs.sets.Sets.new.Given as goal

abbrev pub invariant-loop-set : goal.invariant-loop-set
invariant-loop-set l = l.members ≡ map members_of (take l.set-index l.set-items)
