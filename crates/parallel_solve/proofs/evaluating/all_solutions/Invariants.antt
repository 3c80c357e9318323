-- The solutions so far, and those to come.
use Rattle.std.proofs.Common.{◌≡◌, ◌+◌, ◌++◌, map, drop}
use Rattle.std.specs.List.{flat_map}
use Rattle.xhstt_references.specs.References.{solutions_of}
use Rattle.parallel_solve.proofs.evaluating.all_solutions.Given as goal

abbrev pub invariant-loop-group : goal.invariant-loop-group
invariant-loop-group l =
    map (λ x. x.now) l.all.items ++ flat_map (λ g. g.solutions) (drop l.group-index l.group-items)
    ≡ solutions_of l.fn.archive

abbrev pub invariant-loop-solution : goal.invariant-loop-solution
invariant-loop-solution l =
    map (λ x. x.now) l.all.items ++ (drop l.solution-index l.solution-items
    ++ flat_map (λ g. g.solutions) (drop (l.group-index + 1) l.group-items)) ≡ solutions_of l.fn.archive
