-- The Ids so far.
use Rattle.std.proofs.Common.{◌≡◌, take, map}
use Rattle.xhstt_resolve.proofs.building.time_ids.Given as goal

abbrev pub invariant-loop-time : goal.invariant-loop-time
invariant-loop-time l = l.ids ≡ map (λ t. t.id.text) (take l.time-index l.instance.times)
