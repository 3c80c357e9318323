-- The masks so far are the sets so far.
use Rattle.std.proofs.Common.{◌≡◌, take}
use Rattle.resource_monitors.proofs.masks.masks_of.Given as goal

abbrev pub invariant-loop-set : goal.invariant-loop-set
invariant-loop-set l = l.masks.items ≡ take l.set-index l.sets
