use Rattle.std.proofs.Common.{ℕ, ◌≡◌, ◌<◌, ◌+◌, ◌∙◌, Some, length, get_or, drop, slice_get, refl, sym, ap, subst, arith}
use Rattle.std.proofs.lemmas.Option.{same_Some, slice_get-get_or, slice_get_within}
use Rattle.event_monitors.specs.Effects.{HoldOrWait}
use Rattle.event_monitors.specs.declared.posts.Post.{Post}
use Rattle.event_monitors.proofs.EffectLaws.{hold_start, hold_step}
use Rattle.event_monitors.proofs.TurnLaws.{no_post, spot_drop, spot_post, spot_within}
use Rattle.event_monitors.proofs.queueing.queue_listed.Goals as goal

pub loop-place-init : goal.loop-place-init
loop-place-init g c = record {
  monitors = refl;
  unaffected = λ hears. hold_start (λ k a. (x : g.row.G.Denot) → slice_get c.args.gauges.now k ≡ Some x →
      g.G.Gauge.IsUnaffected x c.args.inst.now a.monitor c.args.effect.now) c.args.posts.now
      c.args.list.now (g.W.Waits.waits c.args.waits.now);
  kept = λ i h. h;
}

pub bounds-posts-k : goal.bounds-posts-k
bounds-posts-k g c = spot_within c.args.inst.now c.args.posts.now c.args.effect.now.before.event.0 c.args.list.now
    c.loop-place.place-index no_post c.requires.list c.loop-place-test.true

pub offset_bounds-gauges-k : goal.offset_bounds-gauges-k
offset_bounds-gauges-k g c = let a = spot_within c.args.inst.now c.args.posts.now c.args.effect.now.before.event.0
    c.args.list.now c.loop-place.place-index no_post c.requires.list c.loop-place-test.true in let b = c.requires.amount
    in omega (arith, a, b)

pub bounds-gauges-k : goal.bounds-gauges-k
bounds-gauges-k g c = let a = spot_within c.args.inst.now c.args.posts.now c.args.effect.now.before.event.0
    c.args.list.now c.loop-place.place-index no_post c.requires.list c.loop-place-test.true in let b = c.requires.amount
    in omega (arith, a, b)

pub queue_one-requires-clause-keeps : goal.queue_one-requires-clause-keeps
queue_one-requires-clause-keeps g c =
    let p = c.args.inst.now in
    let posts = c.args.posts.now in
    let e = c.args.effect.now.before.event.0 in
    let list = c.args.list.now in
    let i = c.loop-place.place-index in
    let k = get_or list i 0 in
    let is = c.requires.list in
    let l = c.loop-place-test.true in
    let gauge = c.index-gauges-k.result in
    let within : k < length c.args.gauges.now = let a = spot_within p posts e list i no_post is l in
    let b = c.requires.amount in omega (arith, a, b) in (
      c.requires.keeps.0,
      c.requires.keeps.1 k (get_or posts k no_post) gauge (spot_post p posts e list i no_post is l)
          (slice_get-get_or c.args.gauges.now k gauge within ∙ ap Some (sym c.index-gauges-k.is)),
    )

pub queue_one-requires-clause-known : goal.queue_one-requires-clause-known
queue_one-requires-clause-known g c =
    let at = spot_post c.args.inst.now c.args.posts.now c.args.effect.now.before.event.0 c.args.list.now
    c.loop-place.place-index no_post c.requires.list c.loop-place-test.true in
    let l = slice_get_within c.args.inst.now.monitors _ _ (c.requires.posts.each _ _ at).there in
    let n = c.loop-place.invariant.monitors in
    let m = c.requires.monitors in
    omega (arith, l, n, m)

pub loop-place-preserved : goal.loop-place-preserved
loop-place-preserved g c =
    let p = c.args.inst.now in
    let posts = c.args.posts.now in
    let e = c.args.effect.now.before.event.0 in
    let list = c.args.list.now in
    let i = c.loop-place.place-index in
    let k = get_or list i 0 in
    let a : Post = get_or posts k no_post in
    let is = c.requires.list in
    let l = c.loop-place-test.true in
    let at = spot_post p posts e list i no_post is l in
    let so = c.loop-place.invariant in
    let one = c.queue_one.ensures in
    let now = g.W.Waits.waits c.loop-place.waits in
    let new = g.W.Waits.waits c.queue_one.new.waits in
    let fact : ℕ → Post → Type 0 = (λ k a. (x : g.row.G.Denot) → slice_get c.args.gauges.now k ≡ Some x →
    g.G.Gauge.IsUnaffected x c.args.inst.now a.monitor c.args.effect.now) in
    let within : k < length c.args.gauges.now = let a = spot_within p posts e list i no_post is l in
    let b = c.requires.amount in omega (arith, a, b) in
    let gauge = c.index-gauges-k.result in
    let found : slice_get c.args.gauges.now k ≡ Some gauge = slice_get-get_or c.args.gauges.now k gauge within
    ∙ ap Some (sym c.index-gauges-k.is) in
    record {
      monitors = one.monitors ∙ so.monitors;
      unaffected = λ hears. hold_step fact posts list (drop (i + 1) list) k a now new at one.kept
          (λ not x here. subst (λ y. g.G.Gauge.IsUnaffected y p a.monitor c.args.effect.now)
          (same_Some gauge x (sym found ∙ here)) (one.unaffected hears not))
          (subst (λ xs. HoldOrWait fact posts list xs now) (spot_drop p posts e list i no_post is l) (so.unaffected
          hears));
      kept = λ j h. one.kept j (so.kept j h);
    }
