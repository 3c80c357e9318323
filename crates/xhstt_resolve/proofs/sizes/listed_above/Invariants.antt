-- No number so far is above the greatest.
use Rattle.std.proofs.Common.{◌≡◌, drop, map, find, ltb}
use Rattle.khe_base.specs.declared.limits.TheConstants.{LISTED}
use Rattle.xhstt_resolve.specs.Limits.{listed_groups}
use Rattle.xhstt_resolve.proofs.sizes.listed_above.Given as goal

abbrev pub invariant-loop-constraint : goal.invariant-loop-constraint
invariant-loop-constraint l =
    find (ltb LISTED) (map (λ c. listed_groups c.rule) (drop l.constraint-index l.instance.constraints))
    ≡ find (ltb LISTED) (map (λ c. listed_groups c.rule) l.instance.constraints)
