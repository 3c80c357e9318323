-- The places so far, with those that are left, are all.
use Rattle.std.proofs.Common.{◌≡◌, ◌++◌, drop}
use Rattle.std.specs.List.{flat_map}
use Rattle.xhstt_resolve.specs.Parts.{group_places}
use Rattle.xhstt_resolve.proofs.places.push_groups.Given as goal

abbrev pub invariant-loop-group : goal.invariant-loop-group
invariant-loop-group l =
    l.places ++ flat_map (group_places l.lookup.instance.now l.event) (drop l.group-index l.event.resource_groups)
    ≡ l.fn.places ++ flat_map (group_places l.lookup.instance.now l.event) l.event.resource_groups
