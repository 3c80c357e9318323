-- The groups so far.
use Rattle.std.proofs.Common.{◌≡◌, take, map}
use Rattle.xhstt_resolve.specs.Parts.{group_of}
use Rattle.xhstt_resolve.proofs.resources.groups_of.Given as goal

abbrev pub invariant-loop-group : goal.invariant-loop-group
invariant-loop-group l = l.groups ≡ map (group_of l.lookup.instance.now)
    (take l.group-index l.lookup.instance.now.event_groups)
