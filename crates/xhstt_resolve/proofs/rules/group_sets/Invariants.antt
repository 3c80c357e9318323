-- The sets so far.
use Rattle.std.proofs.Common.{◌≡◌, take}
use Rattle.xhstt_resolve.specs.Rules.{group_sets}
use Rattle.xhstt_resolve.proofs.rules.group_sets.Given as goal

abbrev pub invariant-loop-group : goal.invariant-loop-group
invariant-loop-group l = l.sets ≡ group_sets l.lookup.instance.now (take l.group-index l.groups)
