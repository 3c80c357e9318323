-- One more place.
use Rattle.std.proofs.Common.{◌+◌, ◌∙◌, ap, arith}
use Rattle.std.proofs.lemmas.List.{take_all}
use Rattle.khe_told.specs.Effects.{given_with}
use Rattle.resource_monitors.specs.Loads.{part_of, worth_at, worths_of}
use Rattle.resource_monitors.proofs.LoadEffectLaws.{given_length}
use Rattle.resource_monitors.proofs.LoadLaws.{worths_less, worths_more}
use Rattle.resource_monitors.proofs.load_effects.worths.Goals as goal

pub overflow_add-total : goal.overflow_add-total
overflow_add-total c =
    let p = c.args.inst.now in
    let all = given_with c.args.given.now c.args.regiven in
    let k = c.loop-place.place in
    let l = c.loop-place-test.true in
    let n = given_length c.args.given.now c.args.regiven in
    let a = worths_more p c.args.r.0 c.args.event c.args.duration all k (omega (arith, l, n)) in
    let b = worths_less p c.args.r.0 c.args.event c.args.duration all (k + 1) in
    let d = c.part-total.ensures
    ∙ ap (λ o. part_of o (worth_at p c.args.event c.args.duration k) c.args.r.0) c.given_at-of.ensures in
    let e = c.loop-place.invariant in
    let f = c.requires.small in
    omega (arith, a, b, d, e, f)

pub loop-place-preserved : goal.loop-place-preserved
loop-place-preserved c =
    let p = c.args.inst.now in
    let all = given_with c.args.given.now c.args.regiven in
    let k = c.loop-place.place in
    let l = c.loop-place-test.true in
    let n = given_length c.args.given.now c.args.regiven in
    let a = worths_more p c.args.r.0 c.args.event c.args.duration all k (omega (arith, l, n)) in
    let d = c.part-total.ensures
    ∙ ap (λ o. part_of o (worth_at p c.args.event c.args.duration k) c.args.r.0) c.given_at-of.ensures in
    let e = c.loop-place.invariant in
    omega (arith, a, d, e)

pub returns : goal.returns
returns c =
    let all = given_with c.args.given.now c.args.regiven in
    let l = c.loop-place-test.false in
    let n = given_length c.args.given.now c.args.regiven in
    c.loop-place.invariant ∙ ap (λ xs. worths_of c.args.inst.now c.args.event c.args.duration 0 xs c.args.r.0)
    (take_all c.loop-place.place all (omega (arith, l, n)))
