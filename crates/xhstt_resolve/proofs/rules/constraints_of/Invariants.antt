-- The constraints so far.
use Rattle.std.proofs.Common.{◌≡◌, take, map}
use Rattle.xhstt_resolve.specs.Parts.{constraint_of}
use Rattle.xhstt_resolve.proofs.rules.constraints_of.Given as goal

abbrev pub invariant-loop-constraint : goal.invariant-loop-constraint
invariant-loop-constraint l = l.constraints ≡ map (constraint_of l.lookup.instance.now)
    (take l.constraint-index l.lookup.instance.now.constraints)
