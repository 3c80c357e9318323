-- The sets so far don't have it.
use Rattle.std.proofs.Common.{◌≡◌, count_by, drop}
use Rattle.khe_base.specs.IdSet.{has_member}
use Rattle.khe_instance.proofs.by_time.one_has.Given as goal

abbrev pub invariant-loop-set : goal.invariant-loop-set
invariant-loop-set l = count_by (λ g. has_member g l.time) (drop l.set-index l.sets)
    ≡ count_by (λ g. has_member g l.time) l.sets
