-- What is lost and gained.
use Rattle.std.proofs.Common.{◌≡◌, ◌<◌, ◌∙◌, length, sym, ap, subst, arith}
use Rattle.std.specs.Option.{option_map_or}
use Rattle.khe_told.specs.Effects.{given_with}
use Rattle.khe_told.specs.Slots.{length_of}
use Rattle.khe_told.specs.declared.slots.Span.{Span}
use Rattle.resource_monitors.specs.Loads.{worths_of}
use Rattle.resource_monitors.proofs.LoadEffectLaws.{gained_within, lost_within}
use Rattle.resource_monitors.proofs.LoadFollowLaws.{exchanged, known}
use Rattle.resource_monitors.proofs.load_effects.load_turned.Goals as goal

pub worths-lost-requires-clause-event : goal.worths-lost-requires-clause-event
worths-lost-requires-clause-event c = subst (λ e. e.0 < length c.args.inst.now.events) (sym c.event-event.ensures)
    (known c.args.inst.now c.facts.ensures c.requires.0 c.args.effect.now c.requires.1)

pub worths-lost-requires-clause-small : goal.worths-lost-requires-clause-small
worths-lost-requires-clause-small c =
    let p = c.args.inst.now in
    let t = c.args.effect.now in
    let a : worths_of p c.event-event.result c.length_of-less.result 0 c.given_before-before.result.now c.args.r.0
    ≡ worths_of p t.before.event (length_of t.before) 0 t.before.given c.args.r.0 =
    (λ i. worths_of p (c.event-event.ensures i)
    ((c.length_of-less.ensures ∙ ap (λ o. option_map_or (λ (y : Span). y.duration) o 0) c.before-2.ensures) i) 0
    (c.given_before-before.ensures i) c.args.r.0) in
    let b = lost_within p c.facts.ensures c.requires.0 t c.requires.1 c.args.r.0 in
    let d = c.requires.2 in
    let e = c.ranges.load.fits in
    omega (arith, a, b, d, e)

pub worths-gained-requires-clause-event : goal.worths-gained-requires-clause-event
worths-gained-requires-clause-event c = subst (λ e. e.0 < length c.args.inst.now.events) (sym c.event-event.ensures)
    (known c.args.inst.now c.facts.ensures c.requires.0 c.args.effect.now c.requires.1)

pub worths-gained-requires-clause-small : goal.worths-gained-requires-clause-small
worths-gained-requires-clause-small c =
    let p = c.args.inst.now in
    let t = c.args.effect.now in
    let a : worths_of p c.event-event.result c.length_of-more.result 0
    (given_with c.given_after-regiven.result.0.now c.given_after-regiven.result.1) c.args.r.0
    ≡ worths_of p t.before.event (length_of t.after) 0 t.after.given c.args.r.0 =
    (λ i. worths_of p (c.event-event.ensures i)
    ((c.length_of-more.ensures ∙ ap (λ o. option_map_or (λ (y : Span). y.duration) o 0) c.after.ensures) i) 0
    (c.given_after-regiven.ensures i) c.args.r.0) in
    let b = gained_within p c.facts.ensures c.requires.0 t c.requires.1 c.args.r.0 in
    omega (arith, a, b)

pub overflow_add-result : goal.overflow_add-result
overflow_add-result c =
    let p = c.args.inst.now in
    let t = c.args.effect.now in
    let a : c.worths-gained.result ≡ worths_of p t.before.event (length_of t.after) 0 t.after.given c.args.r.0 =
    c.worths-gained.ensures ∙
    (λ i. worths_of p (c.event-event.ensures i)
    ((c.length_of-more.ensures ∙ ap (λ o. option_map_or (λ (y : Span). y.duration) o 0) c.after.ensures) i) 0
    (c.given_after-regiven.ensures i) c.args.r.0) in
    let b = gained_within p c.facts.ensures c.requires.0 t c.requires.1 c.args.r.0 in
    let d = c.requires.2 in
    omega (arith, a, b, d)

pub overflow_sub-result : goal.overflow_sub-result
overflow_sub-result c =
    let p = c.args.inst.now in
    let t = c.args.effect.now in
    let a : c.worths-lost.result ≡ worths_of p t.before.event (length_of t.before) 0 t.before.given c.args.r.0 =
    c.worths-lost.ensures ∙
    (λ i. worths_of p (c.event-event.ensures i)
    ((c.length_of-less.ensures ∙ ap (λ o. option_map_or (λ (y : Span). y.duration) o 0) c.before-2.ensures) i) 0
    (c.given_before-before.ensures i) c.args.r.0) in
    let b = lost_within p c.facts.ensures c.requires.0 t c.requires.1 c.args.r.0 in
    let d = c.requires.2 in
    omega (arith, a, b, d)

pub returns : goal.returns
returns c = λ s turns is.
    (let p = c.args.inst.now in
    let t = c.args.effect.now in
    let a : c.worths-lost.result ≡ worths_of p t.before.event (length_of t.before) 0 t.before.given c.args.r.0 =
    c.worths-lost.ensures ∙
    (λ i. worths_of p (c.event-event.ensures i)
    ((c.length_of-less.ensures ∙ ap (λ o. option_map_or (λ (y : Span). y.duration) o 0) c.before-2.ensures) i) 0
    (c.given_before-before.ensures i) c.args.r.0) in
    let b : c.worths-gained.result ≡ worths_of p t.before.event (length_of t.after) 0 t.after.given c.args.r.0 =
    c.worths-gained.ensures ∙
    (λ i. worths_of p (c.event-event.ensures i)
    ((c.length_of-more.ensures ∙ ap (λ o. option_map_or (λ (y : Span). y.duration) o 0) c.after.ensures) i) 0
    (c.given_after-regiven.ensures i) c.args.r.0) in
    let d = lost_within p c.facts.ensures s t turns c.args.r.0 in
    let e = exchanged p c.facts.ensures s t turns c.args.r.0 in
    omega (arith, a, b, d, e, is))
