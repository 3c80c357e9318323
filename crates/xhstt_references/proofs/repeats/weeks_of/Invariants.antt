-- What the groups that are left add to the names is what all add.
use Rattle.std.proofs.Common.{◌≡◌, [], map, drop}
use Rattle.std.specs.List.{filter}
use Rattle.xhstt_references.specs.Ids.{is_week}
use Rattle.xhstt_references.proofs.RepeatsLemmas.{all_names}
use Rattle.xhstt_references.proofs.repeats.weeks_of.Given as goal

abbrev pub invariant-loop-group : goal.invariant-loop-group
invariant-loop-group l =
    all_names l.names (map (λ g. g.id) (filter (λ g. is_week g.sort) (drop l.group-index l.groups)))
    ≡ all_names [] (map (λ g. g.id) (filter (λ g. is_week g.sort) l.groups))
