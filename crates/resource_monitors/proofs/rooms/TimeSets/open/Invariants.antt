-- The sets of the constraints so far.
use Rattle.std.proofs.Common.{◌≡◌, map, take}
use Rattle.resource_monitors.specs.Sets.{sets_of}
use Rattle.resource_monitors.proofs.rooms.TimeSets.open.Given as goal

abbrev pub invariant-loop-number : goal.invariant-loop-number
invariant-loop-number l = l.masks.items ≡ map (λ c. sets_of c.rule) (take l.number l.inst.constraints)
