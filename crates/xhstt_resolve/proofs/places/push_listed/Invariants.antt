-- The places so far, with those that are left, are all.
use Rattle.std.proofs.Common.{◌≡◌, ◌++◌, drop, map}
use Rattle.xhstt_resolve.specs.Parts.{place_of}
use Rattle.xhstt_resolve.proofs.places.push_listed.Given as goal

abbrev pub invariant-loop-resource : goal.invariant-loop-resource
invariant-loop-resource l =
    l.places ++ map (place_of l.lookup.instance.now l.event) (drop l.resource-index l.event.resources) ≡ l.fn.places
    ++ map (place_of l.lookup.instance.now l.event) l.event.resources
