-- What is looked for is among the kinds that are left, where it is among all.
use Rattle.std.proofs.Common.{◌≡◌, drop}
use Rattle.xhstt_shape.specs.Values as spec
use Rattle.xhstt_shape.proofs.constraint_values.kind_among.Given as goal

abbrev pub invariant-loop-kind : goal.invariant-loop-kind
invariant-loop-kind l = spec.kind_among (drop l.kind-index l.kinds) l.name ≡ spec.kind_among l.kinds l.name
