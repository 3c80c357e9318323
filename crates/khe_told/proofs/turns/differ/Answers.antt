-- The places that are passed over are given the same.
use Rattle.std.proofs.Common.{◌+◌, None, arith}
use Rattle.khe_told.proofs.NamingLaws.{below_all, below_more, below_next}
use Rattle.khe_told.proofs.turns.differ.Goals as goal

pub loop-place-init : goal.loop-place-init
loop-place-init c = below_next 0 c.next-place.result c.args.old.now c.args.new.now (λ j l. absurd (omega (arith, l)))
    (λ j a b. c.requires.elsewhere j (c.next-place.ensures.none j a b))

pub loop-place-preserved : goal.loop-place-preserved
loop-place-preserved c =
    let k = c.loop-place.place in
    let l = c.loop-place-test.true in
    let many = c.requires.many in
    below_next (k + 1) c.next-place-in-loop-place.result c.args.old.now c.args.new.now
    (below_more k c.args.old.now c.args.new.now None c.loop-place.invariant l (omega (arith, l, many))
    (c.is_other.ensures c.if-is_other.false))
    (λ j a b. c.requires.elsewhere j (c.next-place-in-loop-place.ensures.none j a b))

pub returns : goal.returns
returns c = λ h. below_all c.loop-place.place c.args.old.now c.args.new.now c.loop-place-test.false c.requires.many
    c.loop-place.invariant
