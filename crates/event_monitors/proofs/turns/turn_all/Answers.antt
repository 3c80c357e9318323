use Rattle.std.proofs.Common.{◌≡◌, ◌∙◌, ◌<◌, ◌+◌, inl, Some, length, get_or, drop, slice_get, refl, sym, ap, subst}
use Rattle.std.proofs.Common.{arith}
use Rattle.std.proofs.lemmas.Option.{slice_get-get_or, slice_get_within}
use Rattle.khe_told.specs.Slots.{emptied}
use Rattle.khe_told.specs.Turns.{turned}
use Rattle.khe_told.specs.declared.slots.Slot.{Slot}
use Rattle.event_monitors.specs.Posts.{names}
use Rattle.event_monitors.specs.Turns.{AreTurned}
use Rattle.event_monitors.specs.declared.posts.Post.{Post}
use Rattle.event_monitors.proofs.TurnLaws.{listed_step, no_post, same_start, same_step, turned_start, turned_step}
use Rattle.event_monitors.proofs.TurnLaws.{spot_drop, spot_fresh, spot_has, spot_listed, spot_named, spot_post}
use Rattle.event_monitors.proofs.TurnLaws.{spot_within}
use Rattle.event_monitors.proofs.turns.turn_all.Goals as goal

pub loop-place-init : goal.loop-place-init
loop-place-init g c =
    let p = c.args.inst.now in
    let s = c.args.told.now in
    let t = c.args.turn.now in
    let turns = c.requires.turns in
    record {
      turned = subst (λ xs. AreTurned g.G.Gauge.Keeps p c.args.posts.now (turned s t) c.args.gauges.now.items
          c.args.gauges.now.items xs) (sym c.requires.list)
          (turned_start g.G.Gauge.Keeps p c.args.posts.now s (turned s t) c.args.gauges.now.items t.before.event.0
          c.requires.keeps
          (λ h m n keep. g.met.G.Gauge.elsewhere h p m s t.before.meet.0 t.after turns.there
          (turns.same ∙ sym (ap emptied turns.slot)) (ap (λ (x : Slot). names p x.event.0 m) turns.slot ∙ n) keep));
      monitors = refl;
      unmoved = λ hears. same_start g.G.Gauge.value p c.args.posts.now c.args.gauges.now.items
          (g.W.Waits.waits c.args.waits.now);
      kept = λ i h. h;
      listed = λ i h. inl h;
    }

pub bounds-posts-k : goal.bounds-posts-k
bounds-posts-k g c = spot_within c.args.inst.now c.args.posts.now
    c.args.turn.now.before.event.0 c.args.list.now c.loop-place.place-index no_post
    c.requires.list c.loop-place-test.true

pub index_mut-requires : goal.index_mut-requires
index_mut-requires g c =
    let a = spot_within c.args.inst.now c.args.posts.now c.args.turn.now.before.event.0
    c.args.list.now c.loop-place.place-index no_post c.requires.list c.loop-place-test.true in
    let b = c.loop-place.invariant.turned.amount in
    let d = c.requires.amount in
    omega (arith, a, b, d)

pub turn_one-requires-clause-keeps : goal.turn_one-requires-clause-keeps
turn_one-requires-clause-keeps g c =
    let p = c.args.inst.now in
    let posts = c.args.posts.now in
    let e = c.args.turn.now.before.event.0 in
    let list = c.args.list.now in
    let i = c.loop-place.place-index in
    let k = get_or list i 0 in
    let is = c.requires.list in
    let l = c.loop-place-test.true in
    let u = c.loop-place.invariant.turned in
    let within : k < length c.loop-place.gauges.items = let a = spot_within p posts e list i no_post is l in let b =
    u.amount in let d = c.requires.amount in omega (arith, a, b, d) in
    let here : slice_get c.loop-place.gauges.items k ≡ Some c.index_mut.result.now =
    slice_get-get_or c.loop-place.gauges.items k c.index_mut.result.now within
    ∙ ap Some (sym c.index_mut.ensures.value) in
    c.requires.keeps k (get_or posts k no_post) c.index_mut.result.now (spot_post p posts e list i no_post is l)
    (sym (u.later k (spot_has p posts e list i no_post is l)) ∙ here)

pub turn_one-requires-clause-named : goal.turn_one-requires-clause-named
turn_one-requires-clause-named g c = spot_named c.args.inst.now c.args.posts.now
    c.args.turn.now.before.event.0 c.args.list.now c.loop-place.place-index no_post
    c.requires.list c.loop-place-test.true

pub turn_one-requires-clause-known : goal.turn_one-requires-clause-known
turn_one-requires-clause-known g c =
    let there = spot_post c.args.inst.now c.args.posts.now c.args.turn.now.before.event.0
    c.args.list.now c.loop-place.place-index no_post c.requires.list c.loop-place-test.true in
    let a = slice_get_within c.args.inst.now.monitors _ _ (c.requires.posts.each _ _ there).there in
    let b = c.loop-place.invariant.monitors in
    let d = c.requires.monitors in
    omega (arith, a, b, d)

pub loop-place-preserved : goal.loop-place-preserved
loop-place-preserved g c =
    let p = c.args.inst.now in
    let posts = c.args.posts.now in
    let e = c.args.turn.now.before.event.0 in
    let list = c.args.list.now in
    let i = c.loop-place.place-index in
    let k = get_or list i 0 in
    let is = c.requires.list in
    let l = c.loop-place-test.true in
    let so = c.loop-place.invariant in
    let a : Post = get_or posts k no_post in
    let s = c.args.told.now in
    let s2 = turned s c.args.turn.now in
    let old = c.args.gauges.now.items in
    let now = c.loop-place.gauges.items in
    let one = c.turn_one.ensures in
    let there = spot_post p posts e list i no_post is l in
    let within : k < length now = let a = spot_within p posts e list i no_post is l in let b = so.turned.amount in
    let d = c.requires.amount in omega (arith, a, b, d) in
    let here : slice_get now k ≡ Some c.index_mut.result.now =
    slice_get-get_or now k c.index_mut.result.now within ∙ ap Some (sym c.index_mut.ensures.value) in
    record {
      turned = turned_step g.G.Gauge.Keeps p posts s s2 old k a c.turn_one.new.gauge now (drop (i + 1) list) there
          within
          (spot_fresh p posts e list i no_post is l) one.keeps
          (subst (λ xs. AreTurned g.G.Gauge.Keeps p posts s2 old now xs) (spot_drop p posts e list i no_post is l)
          so.turned);
      monitors = one.monitors ∙ so.monitors;
      unmoved = λ hears. same_step g.G.Gauge.value p posts old k a c.index_mut.result.now c.turn_one.new.gauge now
          (g.W.Waits.waits c.loop-place.waits) (g.W.Waits.waits c.turn_one.new.waits) there within here one.kept
          (one.unmoved hears) (so.unmoved hears);
      kept = λ j h. one.kept j (so.kept j h);
      listed = listed_step posts list k a (g.W.Waits.waits c.args.waits.now) (g.W.Waits.waits c.loop-place.waits)
          (g.W.Waits.waits c.turn_one.new.waits) (spot_listed p posts e list i no_post is l) there one.others so.listed;
    }
