-- The times so far.
use Rattle.std.proofs.Common.{◌≡◌, length}
use Rattle.resource_monitors.specs.Sets.{has_time}
use Rattle.resource_monitors.proofs.UnionLaws.{IsUpTo}
use Rattle.resource_monitors.proofs.masks.union_of.Given as goal

abbrev pub invariant-loop-time : goal.invariant-loop-time
invariant-loop-time l = (length l.times ≡ l.size) × IsUpTo (has_time l.sets) l.time l.times
