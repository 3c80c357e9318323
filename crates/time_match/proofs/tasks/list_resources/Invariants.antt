use Rattle.std.proofs.Common.{◌≡◌, map}
use Rattle.std.specs.List.{filter, range_with_len}
use Rattle.khe_base.specs.declared.numbers.ResourceId.{ResourceId}
use Rattle.time_match.specs.Tasks.{is_of_type}
use Rattle.time_match.proofs.tasks.list_resources.Given as goal

abbrev pub invariant-loop-number : goal.invariant-loop-number
invariant-loop-number l = l.resources ≡ map (λ n. let r : ResourceId = record { 0 = n } in r)
    (filter (is_of_type l.inst l.rtype) (range_with_len 0 l.number))
