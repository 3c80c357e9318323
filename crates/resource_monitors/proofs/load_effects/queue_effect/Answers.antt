-- Place by place.
use Rattle.std.proofs.Common.{◌∙◌, inl, inr, length, sym, ap, refl, arith}
use Rattle.std.proofs.Common.{Option, Some, None, List, get_or, slice_get}
use Rattle.std.proofs.lemmas.Option.{slice_get-get_or}
use Rattle.khe_base.specs.declared.numbers.ResourceId.{ResourceId}
use Rattle.khe_told.specs.Slots.{length_of}
use Rattle.resource_monitors.proofs.FollowLaws.{of_after, of_before, same_places}
use Rattle.resource_monitors.proofs.LoadEffectLaws.{given_length, queued_all, queued_last, queued_none, queued_step}
use Rattle.resource_monitors.proofs.LoadFollowLaws.{lengths_of}
use Rattle.resource_monitors.proofs.load_effects.queue_effect.Goals as goal

pub loop-place-init : goal.loop-place-init
loop-place-init g c = record {
  same = refl;
  kept = λ k e. e;
  queued = λ hears. queued_none c.args.inst.now c.args.effect.now.before.event (length_of c.args.effect.now.before)
      (length_of c.args.effect.now.after) c.args.effect.now.before.given c.args.effect.now.after.given
      (g.W.Waits.waits c.args.waits.now);
}

pub given_at-new-requires : goal.given_at-new-requires
given_at-new-requires g c =
    let a = same_places c.args.inst.now c.facts.ensures c.requires.turns.0 c.args.effect.now c.requires.turns.1 in
    let b = ap length c.given_after-regiven.ensures in
    let d = given_length c.given_after-regiven.result.0.now c.given_after-regiven.result.1 in
    let e = ap length c.given_before-before.ensures in
    let l = c.loop-place-test.true in
    omega (arith, a, b, d, e, l)

pub queue_other-requires-clause-before : goal.queue_other-requires-clause-before
queue_other-requires-clause-before g c = λ r is.
    (let l = c.loop-place-test.true in
    of_before c.args.inst.now c.facts.ensures c.requires.turns.0 c.args.effect.now c.requires.turns.1
    c.loop-place.place r
    (ap (λ (xs : List (Option ResourceId)). slice_get xs c.loop-place.place) (sym c.given_before-before.ensures)
    ∙ slice_get-get_or c.given_before-before.result.now c.loop-place.place None l ∙ ap Some is))

pub queue_other-requires-clause-later : goal.queue_other-requires-clause-later
queue_other-requires-clause-later g c = λ r is.
    (let a = same_places c.args.inst.now c.facts.ensures c.requires.turns.0 c.args.effect.now c.requires.turns.1 in
    let e = ap length c.given_before-before.ensures in
    let l = c.loop-place-test.true in
    of_after c.args.inst.now c.facts.ensures c.requires.turns.0 c.args.effect.now c.requires.turns.1
    c.loop-place.place r
    (slice_get-get_or c.args.effect.now.after.given c.loop-place.place None (omega (arith, a, e, l))
    ∙ ap Some (ap (λ (xs : List (Option ResourceId)). get_or xs c.loop-place.place None)
    (sym c.given_after-regiven.ensures) ∙ sym c.given_at-new.ensures ∙ is)))

pub loop-place-preserved : goal.loop-place-preserved
loop-place-preserved g c = record {
  same = c.queue_other.ensures.monitors ∙ c.loop-place.invariant.same;
  kept = λ k e. c.queue_other.ensures.kept k (c.loop-place.invariant.kept k e);
  queued = λ hears.
      (let p = c.args.inst.now in
      let t = c.args.effect.now in
      let a = same_places p c.facts.ensures c.requires.turns.0 t c.requires.turns.1 in
      let e = ap length c.given_before-before.ensures in
      let l = c.loop-place-test.true in
      queued_step p t.before.event (length_of t.before) (length_of t.after) t.before.given t.after.given
      c.loop-place.place (omega (arith, e, l)) (omega (arith, a, e, l)) (g.W.Waits.waits c.loop-place.waits)
      (g.W.Waits.waits c.queue_other.new.waits) c.queue_other.ensures.kept
      (get_or c.given_before-before.result.now c.loop-place.place None) c.given_at-new.result
      (ap (λ (xs : List (Option ResourceId)). get_or xs c.loop-place.place None) c.given_before-before.ensures)
      (c.given_at-new.ensures
      ∙ ap (λ (xs : List (Option ResourceId)). get_or xs c.loop-place.place None) c.given_after-regiven.ensures)
      (elim (c.queue_other.ensures.queued hears) [
        | inl w ↦ inl (lengths_of t.before.span t.after.span (c.resizes-resizes.ensures w.0), w.1)
        | inr w ↦ inr w
      ])
      (c.loop-place.invariant.queued hears));
}

pub returns-clause-queued : goal.returns-clause-queued
returns-clause-queued g c = λ hears s turns.
    (let p = c.args.inst.now in
    let t = c.args.effect.now in
    let e = ap length c.given_before-before.ensures in
    let l = c.loop-place-test.false in
    queued_all p c.facts.ensures s t turns (g.W.Waits.waits c.loop-place.waits)
    (queued_last p t.before.event (length_of t.before) (length_of t.after) t.before.given t.after.given
    c.loop-place.place (omega (arith, e, l)) (same_places p c.facts.ensures s t turns)
    (g.W.Waits.waits c.loop-place.waits) (c.loop-place.invariant.queued hears)))
