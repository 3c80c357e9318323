-- Place by place.
use Rattle.std.proofs.Common.{◌∙◌, length, sym, ap, refl, arith}
use Rattle.std.proofs.Common.{Option, Some, None, List, get_or, slice_get}
use Rattle.std.proofs.lemmas.Option.{slice_get-get_or}
use Rattle.khe_base.specs.declared.numbers.ResourceId.{ResourceId}
use Rattle.khe_told.specs.Effects.{turned_all}
use Rattle.khe_told.specs.Waits.{WaitOn}
use Rattle.resource_monitors.specs.Runs.{run_of}
use Rattle.resource_monitors.proofs.CellEffectLaws.{other_known, places_settled, settled_last, settled_more, settled_none}
use Rattle.resource_monitors.proofs.FollowLaws.{of_after, of_before, same_places}
use Rattle.resource_monitors.proofs.LoadEffectLaws.{given_length}
use Rattle.resource_monitors.proofs.cell_effects.queue_effect.Goals as goal

pub loop-place-init : goal.loop-place-init
loop-place-init g c = record {
  same = refl;
  kept = λ k e. e;
  settled = settled_none c.args.inst.now c.facts.ensures g.K.CellKinds.serves_kind g.met.K.CellKinds.at_cells
      c.args.told.now (turned_all c.args.told.now c.args.effects.now) (run_of c.args.effect.now.before.span)
      (run_of c.args.effect.now.after.span) c.args.effect.now.before.given c.args.effect.now.after.given
      (g.W.Waits.waits c.args.waits.now);
}

pub given_at-new-requires : goal.given_at-new-requires
given_at-new-requires g c =
    let a = same_places c.args.inst.now c.facts.ensures c.requires.turn.0 c.args.effect.now c.requires.turn.1 in
    let b = ap length c.given_after-regiven.ensures in
    let d = given_length c.given_after-regiven.result.0.now c.given_after-regiven.result.1 in
    let e = ap length c.given_before-before.ensures in
    let l = c.loop-place-test.true in
    omega (arith, a, b, d, e, l)

pub queue_place-requires-clause-resource : goal.queue_place-requires-clause-resource
queue_place-requires-clause-resource g c = other_known c.other-from.result
    (get_or c.given_before-before.result.now c.loop-place.place None) (length c.args.inst.now.resources)
    c.other-from.ensures.given (λ r is.
    (let l = c.loop-place-test.true in
    of_before c.args.inst.now c.facts.ensures c.requires.turn.0 c.args.effect.now c.requires.turn.1
    c.loop-place.place r
    (ap (λ (xs : List (Option ResourceId)). slice_get xs c.loop-place.place) (sym c.given_before-before.ensures)
    ∙ slice_get-get_or c.given_before-before.result.now c.loop-place.place None l ∙ ap Some is)))

pub queue_place-requires-in-loop-place-clause-resource : goal.queue_place-requires-in-loop-place-clause-resource
queue_place-requires-in-loop-place-clause-resource g c = other_known c.other-to.result c.given_at-new.result
    (length c.args.inst.now.resources) c.other-to.ensures.given (λ r is.
    (let a = same_places c.args.inst.now c.facts.ensures c.requires.turn.0 c.args.effect.now c.requires.turn.1 in
    let e = ap length c.given_before-before.ensures in
    let l = c.loop-place-test.true in
    of_after c.args.inst.now c.facts.ensures c.requires.turn.0 c.args.effect.now c.requires.turn.1
    c.loop-place.place r
    (slice_get-get_or c.args.effect.now.after.given c.loop-place.place None (omega (arith, a, e, l))
    ∙ ap Some (ap (λ (xs : List (Option ResourceId)). get_or xs c.loop-place.place None)
    (sym c.given_after-regiven.ensures) ∙ sym c.given_at-new.ensures ∙ is))))

pub loop-place-preserved : goal.loop-place-preserved
loop-place-preserved g c =
    let p = c.args.inst.now in
    let t = c.args.effect.now in
    let s = c.args.told.now in
    let s2 = turned_all s c.args.effects.now in
    let a = same_places p c.facts.ensures c.requires.turn.0 t c.requires.turn.1 in
    let e = ap length c.given_before-before.ensures in
    let l = c.loop-place-test.true in
    let on : WaitOn (g.W.Waits.waits c.loop-place.waits) (g.W.Waits.waits c.queue_place-in-loop-place.new.waits) =
    λ k w. c.queue_place-in-loop-place.ensures.kept k (c.queue_place.ensures.kept k w) in
    record {
      same = c.queue_place-in-loop-place.ensures.monitors ∙ c.queue_place.ensures.monitors
          ∙ c.loop-place.invariant.same;
      kept = λ k w. on k (c.loop-place.invariant.kept k w);
      settled = settled_more p c.facts.ensures g.K.CellKinds.serves_kind g.met.K.CellKinds.at_cells s s2
          (run_of t.before.span) (run_of t.after.span) t.before.given t.after.given c.loop-place.place
          (omega (arith, e, l)) (omega (arith, a, e, l)) (g.W.Waits.waits c.loop-place.waits)
          (g.W.Waits.waits c.queue_place-in-loop-place.new.waits) on
          (get_or c.given_before-before.result.now c.loop-place.place None) c.given_at-new.result
          (ap (λ (xs : List (Option ResourceId)). get_or xs c.loop-place.place None) c.given_before-before.ensures)
          (c.given_at-new.ensures
          ∙ ap (λ (xs : List (Option ResourceId)). get_or xs c.loop-place.place None) c.given_after-regiven.ensures)
          (places_settled p c.facts.ensures g.K.CellKinds.serves_kind g.met.K.CellKinds.at_cells s s2
          (run_of t.before.span) (run_of t.after.span) _ _ c.other-from.result c.other-to.result
          (g.W.Waits.waits c.queue_place.new.waits) (g.W.Waits.waits c.queue_place-in-loop-place.new.waits)
          c.moves-moves.result (λ w. ap run_of (c.moves-moves.ensures w)) c.other-from.ensures.same
          c.other-to.ensures.same c.queue_place.ensures.settled c.queue_place-in-loop-place.ensures.kept
          c.queue_place-in-loop-place.ensures.settled)
          c.loop-place.invariant.settled;
    }

pub returns-clause-settled : goal.returns-clause-settled
returns-clause-settled g c =
    let p = c.args.inst.now in
    let t = c.args.effect.now in
    let e = ap length c.given_before-before.ensures in
    let l = c.loop-place-test.false in
    settled_last p c.facts.ensures g.K.CellKinds.serves_kind g.met.K.CellKinds.at_cells c.args.told.now
    (turned_all c.args.told.now c.args.effects.now)
    (run_of t.before.span) (run_of t.after.span) t.before.given t.after.given
    c.loop-place.place (omega (arith, e, l))
    (same_places p c.facts.ensures c.requires.turn.0 t c.requires.turn.1)
    (g.W.Waits.waits c.loop-place.waits) c.loop-place.invariant.settled
