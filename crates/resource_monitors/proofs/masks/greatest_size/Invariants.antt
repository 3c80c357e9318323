use Rattle.std.proofs.Common.{ℕ, ◌≡◌, ◌≤◌, false, take}
use Rattle.resource_monitors.specs.Sets.{has_time}
use Rattle.resource_monitors.proofs.masks.greatest_size.Given as goal

abbrev pub invariant-loop-set : goal.invariant-loop-set
invariant-loop-set l = (t : ℕ) → l.size ≤ t → has_time (take l.set-index l.sets) t ≡ false
