-- The solutions so far and those of the groups that are left are all.
use Rattle.std.proofs.Common.{◌≡◌, ◌≤◌, ◌+◌, ◌*◌, ◌^◌, drop, length}
use Rattle.std.specs.List.{flat_map}
use Rattle.xhstt_resolve.proofs.resolving.solution_count.Given as goal

abbrev pub invariant-loop-group : goal.invariant-loop-group
invariant-loop-group l = record {
  counted : l.count + length (flat_map (λ g. g.solutions) (drop l.group-index l.fn.archive.solution_groups))
      ≡ length (flat_map (λ g. g.solutions) l.fn.archive.solution_groups);
  small : l.count ≤ l.group-index * 2 ^ 64;
}
