use Rattle.std.proofs.Common.{◌+◌, inl, get_or, drop, refl, sym, subst, arith, ◌∙◌}
use Rattle.std.proofs.lemmas.Option.{slice_get_within}
use Rattle.event_monitors.specs.declared.posts.Post.{Post}
use Rattle.event_monitors.proofs.TurnLaws.{added_on, added_other, added_own, listed_step, no_post, spot_drop}
use Rattle.event_monitors.proofs.TurnLaws.{spot_listed, spot_post, spot_within}
use Rattle.set_monitors.specs.OrderWaits.{NamedWait}
use Rattle.set_monitors.proofs.OrderWaitLaws.{named_start, named_step}
use Rattle.set_monitors.proofs.order_waits.add_all.Goals as goal

pub loop-place-init : goal.loop-place-init
loop-place-init g c =
    let p = c.args.inst.now in
    let posts = c.args.posts.now in
    let e = c.args.event.0 in
    let waits = g.W.Waits.waits c.args.waits.now in
    record {
      monitors = refl;
      named = λ hears. subst (λ xs. NamedWait p posts e waits xs) (sym c.requires.list) (named_start p posts e waits);
      kept = λ i h. h;
      listed = λ i h. inl h;
    }

pub bounds-posts-place : goal.bounds-posts-place
bounds-posts-place g c = spot_within c.args.inst.now c.args.posts.now c.args.event.0 c.args.list.now
    c.loop-place.place-index no_post c.requires.list c.loop-place-test.true

pub add-requires : goal.add-requires
add-requires g c = record {
  known =
      let at = spot_post c.args.inst.now c.args.posts.now c.args.event.0 c.args.list.now c.loop-place.place-index
      no_post c.requires.list c.loop-place-test.true in
      let l = slice_get_within c.args.inst.now.monitors _ _ (c.requires.posts.each _ _ at).there in
      let n = c.loop-place.invariant.monitors in
      let m = c.requires.monitors in
      omega (arith, l, n, m);
}

pub loop-place-preserved : goal.loop-place-preserved
loop-place-preserved g c =
    let p = c.args.inst.now in
    let posts = c.args.posts.now in
    let e = c.args.event.0 in
    let list = c.args.list.now in
    let i = c.loop-place.place-index in
    let k = get_or list i 0 in
    let a : Post = get_or posts k no_post in
    let is = c.requires.list in
    let l = c.loop-place-test.true in
    let at = spot_post p posts e list i no_post is l in
    let so = c.loop-place.invariant in
    let hear = g.W.Waits.hears in
    let now = g.W.Waits.waits c.loop-place.waits in
    let new = g.W.Waits.waits c.add.new.self in
    let added = c.add.ensures.waits in
    let on = added_on hear a.number.0 now new added in
    record {
      monitors = c.add.ensures.monitors ∙ so.monitors;
      named = λ hears. named_step p posts e k a now new (drop (i + 1) list) at
          (added_own hear a.number.0 now new added hears) on
          (subst (λ xs. NamedWait p posts e now xs) (spot_drop p posts e list i no_post is l) (so.named hears));
      kept = λ j h. on j (so.kept j h);
      listed = listed_step posts list k a (g.W.Waits.waits c.args.waits.now) now new
          (spot_listed p posts e list i no_post is l) at (added_other hear a.number.0 now new added) so.listed;
    }
