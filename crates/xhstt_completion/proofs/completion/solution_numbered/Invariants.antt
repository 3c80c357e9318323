-- The solution is one of the groups that are left.
use Rattle.std.proofs.Common.{◌≡◌, drop, slice_get}
use Rattle.std.specs.List.{flat_map}
use Rattle.xhstt_completion.proofs.completion.solution_numbered.Given as goal

abbrev pub invariant-loop-group : goal.invariant-loop-group
invariant-loop-group l =
    slice_get (flat_map (λ group. group.solutions) (drop l.group-index l.groups)) l.left
    ≡ slice_get (flat_map (λ group. group.solutions) l.groups) l.fn.number
