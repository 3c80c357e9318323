-- The places so far, with those of the groups that are left, are all.
use Rattle.std.proofs.Common.{◌≡◌, ◌+◌, ◌*◌, ◌≤◌, ◌^◌, drop, length}
use Rattle.std.specs.List.{flat_map}
use Rattle.xhstt_resolve.specs.Parts.{group_places, places_of}
use Rattle.xhstt_resolve.proofs.sizes.place_count.Given as goal

abbrev pub invariant-loop-group : goal.invariant-loop-group
invariant-loop-group l = record {
  counted : l.count + length (flat_map (group_places l.lookup.instance.now l.event)
      (drop l.group-index l.event.resource_groups)) ≡ length (places_of l.lookup.instance.now l.event);
  small : l.count ≤ 2 ^ 64 + l.group-index * 10000;
}
