-- A number by the greatest common divisor, times the other, is the least common multiple.
use Rattle.std.proofs.Common.{subst}
use Rattle.std.specs.Int.{IsGcd}
use Rattle.khe_base.proofs.UnitsLemmas.{IsLeastMultiple-from_gcd, IsGcd-positive}
use Rattle.khe_base.proofs.units.least_multiple.Goals as goal

pub nonzero_div-unit : goal.nonzero_div-unit
nonzero_div-unit c = IsGcd-positive _ _ _ c.greatest_divisor-shared.ensures c.requires.unit

pub returns : goal.returns
returns c =
    let d = c.args.duration in
    let g = c.greatest_divisor-shared.result in
    let is : IsGcd c.args.unit d g = subst (λ x. IsGcd c.args.unit x g) c.from.ensures
    c.greatest_divisor-shared.ensures in
    rw (c.from-2.ensures, c.from-3.ensures) (IsLeastMultiple-from_gcd _ d g is c.requires.unit c.requires.duration)
