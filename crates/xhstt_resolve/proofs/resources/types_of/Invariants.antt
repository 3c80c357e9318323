-- The types so far.
use Rattle.std.proofs.Common.{◌≡◌, take, map, unwrap_or}
use Rattle.khe_base.specs.Names.{number_of}
use Rattle.xhstt_resolve.proofs.resources.types_of.Given as goal

abbrev pub invariant-loop-resource : goal.invariant-loop-resource
invariant-loop-resource l = l.numbers ≡ map (λ r. unwrap_or (number_of r.resource_type.id l.types) 0)
    (take l.resource-index l.resources)
