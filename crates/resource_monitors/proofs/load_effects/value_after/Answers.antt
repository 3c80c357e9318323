-- What the rule measures of the resource's workload.
use Rattle.std.proofs.Common.{◌≡◌, ◌≤◌, ◌*◌, ◌∙◌, true, sym, ap, refl, subst, arith}
use Rattle.std.proofs.lemmas.Bool.{eq-eqb, eqb-true}
use Rattle.std.proofs.lemmas.Option.{slice_get_within}
use Rattle.khe_base.specs.declared.limits.TheConstants.{GREATEST_DEVIATION}
use Rattle.khe_instance.proofs.MadeLemmas.{constraint_made}
use Rattle.khe_instance.specs.Watching.{is_at}
use Rattle.khe_told.specs.Effects.{turned_all}
use Rattle.resource_monitors.specs.Loads.{outside}
use Rattle.resource_monitors.proofs.LoadEffectLaws.{load_is_measured, load_small_after}
use Rattle.resource_monitors.proofs.LoadValueLaws.{on_workload, outside_small}
use Rattle.resource_monitors.proofs.load_effects.value_after.Goals as goal

pub returns-in_default : goal.returns-in_default
returns-in_default c =
    let on = on_workload c.args.inst.now c.args.monitor c.requires.monitor c.requires.kind in
    absurd (c.in_default.not-Resource on.resource on.point)

pub constraint-requires : goal.constraint-requires
constraint-requires c =
    let on = on_workload c.args.inst.now c.args.monitor c.requires.monitor c.requires.kind in
    slice_get_within c.args.inst.now.constraints c.args.monitor.constraint on.constraint on.there

pub load_at-load-requires : goal.load_at-load-requires
load_at-load-requires c =
    let on = on_workload c.args.inst.now c.args.monitor c.requires.monitor c.requires.kind in
    let own : is_at c.args.monitor.point on.resource.0 ≡ true =
    ap (λ x. is_at x on.resource.0) on.point ∙ eq-eqb on.resource.0 on.resource.0 refl in
    let e : c.in-Resource.r.0 ≡ on.resource.0 = eqb-true c.in-Resource.r.0 on.resource.0
    (sym (ap (λ x. is_at x on.resource.0) c.in-Resource.is) ∙ own) in
    let l = on.known in
    let n = c.requires.loads.resources in
    omega (arith, e, l, n)

pub load_after-load-requires-clause-load : goal.load_after-load-requires-clause-load
load_after-load-requires-clause-load c = c.load_at-load.ensures ∙ c.requires.loads.each c.in-Resource.r.0

pub measure-requires-clause-rule : goal.measure-requires-clause-rule
measure-requires-clause-rule c = (constraint_made c.args.inst.now c.facts.ensures c.args.monitor.constraint
    c.constraint.result.now c.constraint.ensures).rule

pub measure-requires-clause-load : goal.measure-requires-clause-load
measure-requires-clause-load c = subst (λ n. n ≤ GREATEST_DEVIATION * c.args.inst.now.unit)
    (sym c.load_after-load.ensures)
    (load_small_after c.args.inst.now c.facts.ensures c.args.told.now c.args.effects.now c.requires.turns
    c.in-Resource.r.0)

pub returns-clause-value : goal.returns-clause-value
returns-clause-value c =
    let p = c.args.inst.now in
    let r = c.in-Resource.r in
    let own : is_at c.args.monitor.point r.0 ≡ true =
    ap (λ x. is_at x r.0) c.in-Resource.is ∙ eq-eqb r.0 r.0 refl in
    c.measure.ensures ∙ ap (outside p c.constraint.result.now.rule) c.load_after-load.ensures
    ∙ sym (load_is_measured p (turned_all c.args.told.now c.args.effects.now) c.args.monitor c.constraint.result.now r
    c.requires.monitor c.requires.kind c.constraint.ensures own)

pub returns-clause-small : goal.returns-clause-small
returns-clause-small c = subst (λ n. n ≤ GREATEST_DEVIATION) (sym c.measure.ensures)
    (outside_small c.args.inst.now c.facts.ensures c.load_after-load.result
    (subst (λ n. n ≤ GREATEST_DEVIATION * c.args.inst.now.unit)
    (sym c.load_after-load.ensures)
    (load_small_after c.args.inst.now c.facts.ensures c.args.told.now c.args.effects.now c.requires.turns
    c.in-Resource.r.0))
    c.constraint.result.now.rule
    (constraint_made c.args.inst.now c.facts.ensures c.args.monitor.constraint
    c.constraint.result.now c.constraint.ensures).rule)
