-- The Ids so far, and those to come.
use Rattle.std.proofs.Common.{◌≡◌, ◌+◌, ◌++◌, map, drop}
use Rattle.reading_commands.specs.Report.{group_ids}
use Rattle.reading_commands.proofs.reports.groups_of.Given as goal

abbrev pub invariant-loop-group : goal.invariant-loop-group
invariant-loop-group l =
    map (λ x. x.now) l.all.items ++ group_ids (drop l.group-index l.group-items) ≡ group_ids l.fn.archive.solution_groups

abbrev pub invariant-loop : goal.invariant-loop
invariant-loop l =
    map (λ x. x.now) l.all.items ++ (map (λ _. l.group.id.text) (drop l.index l.items)
    ++ group_ids (drop (l.group-index + 1) l.group-items)) ≡ group_ids l.fn.archive.solution_groups
