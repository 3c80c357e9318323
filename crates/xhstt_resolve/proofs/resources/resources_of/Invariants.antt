-- The resources so far.
use Rattle.std.proofs.Common.{◌≡◌, take, map}
use Rattle.xhstt_resolve.specs.Parts.{resource_of}
use Rattle.xhstt_resolve.proofs.resources.resources_of.Given as goal

abbrev pub invariant-loop-resource : goal.invariant-loop-resource
invariant-loop-resource l = l.resources ≡ map (resource_of l.lookup.instance.now)
    (take l.resource-index l.lookup.instance.now.resources)
