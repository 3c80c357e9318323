use Rattle.std.proofs.Common.{arith}
use Rattle.resource_monitors.specs.Sets.{has_time}
use Rattle.resource_monitors.proofs.UnionLaws.{up_to_all}
use Rattle.resource_monitors.proofs.masks.union_of.Goals as goal

pub returns : goal.returns
returns c =
    let all = c.loop-time-test.false in
    up_to_all (has_time c.args.sets.now) c.loop-time.time c.loop-time.times c.loop-time.invariant.1
    (λ t h. c.greatest_size-size.ensures t (omega (arith, all, h)))
