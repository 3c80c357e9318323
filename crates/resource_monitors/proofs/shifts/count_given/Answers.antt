-- One more place.
use Rattle.std.proofs.Common.{◌≡◌, ◌≤◌, ◌+◌, ◌∙◌, Bool, true, false, cond, None, ap, get_or, arith, ℕ, Option, take}
use Rattle.std.proofs.lemmas.List.{take_all}
use Rattle.std.proofs.lemmas.List.Sums.{sum_by_more}
use Rattle.khe_base.specs.declared.numbers.ResourceId.{ResourceId}
use Rattle.khe_instance.specs.Running.{is_resource}
use Rattle.khe_told.specs.Effects.{given_with}
use Rattle.resource_monitors.specs.Cells.{given_to}
use Rattle.resource_monitors.proofs.LoadEffectLaws.{given_length}
use Rattle.resource_monitors.proofs.shifts.count_given.Goals as goal

few : (b : Bool) → cond {A = ℕ} b 1 0 ≤ 1
few true = omega arith
few false = omega arith

pub loop-place-preserved : goal.loop-place-preserved
loop-place-preserved c =
    let all = given_with c.args.given.now c.args.regiven in
    let k = c.loop-place.place in
    let l = c.loop-place-test.true in
    let n = given_length c.args.given.now c.args.regiven in
    let a : given_to c.args.r.0 (take (k + 1) all)
    ≡ given_to c.args.r.0 (take k all) + cond {A = ℕ} (is_resource c.args.r.0 (get_or all k None)) 1 0 =
    sum_by_more (λ (o : Option ResourceId). cond {A = ℕ} (is_resource c.args.r.0 o) 1 0) all k None
    (omega (arith, l, n)) in
    let d : c.one_if-count.result ≡ cond {A = ℕ} (is_resource c.args.r.0 (get_or all k None)) 1 0 =
    c.one_if-count.ensures ∙ ap (λ b. cond {A = ℕ} b 1 0) (c.is_of.ensures
    ∙ ap (is_resource c.args.r.0) c.given_at.ensures) in
    let e = c.loop-place.invariant.value in
    let f = c.loop-place.invariant.small in
    let g = few (is_resource c.args.r.0 (get_or all k None)) in
    record { value = omega (arith, a, d, e); small = omega (arith, d, f, g) }

pub returns : goal.returns
returns c =
    let all = given_with c.args.given.now c.args.regiven in
    let l = c.loop-place-test.false in
    let n = given_length c.args.given.now c.args.regiven in
    c.loop-place.invariant.value ∙ ap (given_to c.args.r.0) (take_all c.loop-place.place all (omega (arith, l, n)))
