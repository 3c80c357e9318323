-- There are as many slots as the instance has; and one slot more.
use Rattle.std.proofs.Common.{refl, subst, arith}
use Rattle.khe_told.specs.Fits.{AreTold}
use Rattle.khe_told.specs.Lists.{meets_in}
use Rattle.khe_engine.proofs.ListedLaws.{listed_end, meets_next}
use Rattle.khe_engine.proofs.OpeningLaws.{slots_number}
use Rattle.khe_engine.proofs.listing.list_meets.Goals as goal

pub loop-number-preserved : goal.loop-number-preserved
loop-number-preserved c =
    let s = c.args.solution.now.slots in
    let many = slots_number c.args.inst.now s (subst (λ p. AreTold p s) c.requires c.facts-2.ensures.told) in
    let end = c.meet_slots-number-end.ensures in
    meets_next _ _ _ c.loop-number.number s c.meet.result (omega (arith, c.loop-number-test.true, end, many))
    c.meet.ensures c.in_ok-add_meet.ensures c.loop-number.invariant

pub returns : goal.returns
returns c =
    let s = c.args.solution.now.slots in
    let many = slots_number c.args.inst.now s (subst (λ p. AreTold p s) c.requires c.facts-2.ensures.told) in
    let end = c.meet_slots-number-end.ensures in
    listed_end meets_in _ _ c.loop-number.number s refl (omega (arith, end, many)) c.loop-number.invariant
