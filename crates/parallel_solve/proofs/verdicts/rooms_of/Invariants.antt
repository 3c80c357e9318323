-- The rooms of the instances so far.
use Rattle.std.proofs.Common.{◌≡◌, map, take}
use Rattle.resource_deviations.specs.Sets.{room_for}
use Rattle.parallel_solve.proofs.verdicts.rooms_of.Given as goal

abbrev pub invariant-loop-inst : goal.invariant-loop-inst
invariant-loop-inst l = l.rooms.items ≡ map room_for (take l.inst-index l.resolved.instances)
