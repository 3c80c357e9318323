-- One more set has no time from the greatest size on.
use Rattle.std.proofs.Common.{◌≡◌, ◌≤◌, false, length, subst, arith}
use Rattle.std.proofs.lemmas.List.{take_all}
use Rattle.resource_monitors.specs.Sets.{has_time}
use Rattle.resource_monitors.proofs.UnionLaws.{none_more}
use Rattle.resource_monitors.proofs.masks.greatest_size.Goals as goal

pub loop-set-preserved : goal.loop-set-preserved
loop-set-preserved c =
    let one = c.larger-size.ensures.one in
    let other = c.larger-size.ensures.other in
    let is = c.size.ensures in
    let short : length c.set-item.result ≤ c.larger-size.result = omega (arith, other, is) in
    none_more c.args.sets.now c.loop-set.set-index c.larger-size.result c.set-item.result c.loop-set-test.true
    c.set-item.is short (λ t h. c.loop-set.invariant t (omega (arith, one, h)))

pub returns : goal.returns
returns c = λ t h. subst (λ xs. has_time xs t ≡ false)
    (take_all c.loop-set.set-index c.args.sets.now (let e = c.loop-set-test.false in omega (arith, e)))
    (c.loop-set.invariant t h)
