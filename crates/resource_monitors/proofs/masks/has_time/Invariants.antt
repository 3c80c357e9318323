use Rattle.std.proofs.Common.{◌≡◌, drop, count_by}
use Rattle.khe_base.specs.IdSet.{has_member}
use Rattle.resource_monitors.proofs.masks.has_time.Given as goal

abbrev pub invariant-loop-set : goal.invariant-loop-set
invariant-loop-set l = count_by (λ g. has_member g l.time) (drop l.set-index l.sets)
    ≡ count_by (λ g. has_member g l.time) l.sets
