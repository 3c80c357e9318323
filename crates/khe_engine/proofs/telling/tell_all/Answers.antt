-- There are as many slots as the instance has.
use Rattle.std.proofs.Common.{◌≡◌, ◌∙◌, ap, subst, arith, length}
use Rattle.khe_told.specs.Fits.{AreTold}
use Rattle.khe_engine.specs.Openings.{told_to}
use Rattle.khe_engine.proofs.OpeningLaws.{slots_number, told_last}
use Rattle.khe_engine.proofs.telling.tell_all.Goals as goal

pub tell_slot-requires-clause-there : goal.tell_slot-requires-clause-there
tell_slot-requires-clause-there g c =
    let many = slots_number c.args.inst.now c.args.solution.now.slots
    (subst (λ p. AreTold p c.args.solution.now.slots) c.requires.parts c.facts-2.ensures.told) in
    omega (arith, c.loop-number-test.true, c.meet_slots-number-end.ensures, many)

pub returns-clause-told : goal.returns-clause-told
returns-clause-told g c =
    let s = c.args.solution.now.slots in
    let many = slots_number c.args.inst.now s (subst (λ p. AreTold p s) c.requires.parts c.facts-2.ensures.told) in
    let end = c.meet_slots-number-end.ensures in
    let all : c.loop-number.number ≡ length s = omega (arith, many, end) in
    c.loop-number.invariant.told ∙ ap (λ k. told_to k s) all ∙ told_last s
