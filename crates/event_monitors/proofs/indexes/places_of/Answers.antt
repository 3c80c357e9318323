use Rattle.std.proofs.Common.{◌≡◌, get_or, length, subst, arith}
use Rattle.std.proofs.lemmas.Option.{slice_get-get_or, slice_get_within}
use Rattle.event_monitors.specs.declared.posts.Post.{Post}
use Rattle.event_monitors.proofs.PostLaws.{ArePlaced, all_placed, one_placed}
use Rattle.event_monitors.proofs.TurnLaws.{no_post}
use Rattle.event_monitors.proofs.indexes.places_of.Goals as goal

pub index_mut-requires : goal.index_mut-requires
index_mut-requires g c =
    let k = c.loop-place.place in
    let l = slice_get_within c.args.inst.now.monitors _ _ (c.requires.each k _
    (slice_get-get_or c.args.posts.now k no_post c.loop-place-test.true)).there in
    let r = c.loop-place.invariant.rows in
    omega (arith, l, r)

pub loop-place-preserved : goal.loop-place-preserved
loop-place-preserved g c =
    let posts = c.args.posts.now in
    let k = c.loop-place.place in
    let a : Post = get_or posts k no_post in
    let there = slice_get-get_or posts k no_post c.loop-place-test.true in
    one_placed posts c.loop-place.places.items (length c.args.inst.now.monitors) k a c.requires.ascending there
    (slice_get_within c.args.inst.now.monitors a.number.0 a.monitor (c.requires.each k a there).there)
    c.loop-place.invariant

pub returns : goal.returns
returns g c =
    let posts = c.args.posts.now in
    let all : c.loop-place.place ≡ length posts = let past = c.loop-place-test.false in let most =
    c.loop-place.auto.place-end in omega (arith, past, most) in
    all_placed posts c.loop-place.places.items (length c.args.inst.now.monitors)
    (subst (ArePlaced posts c.loop-place.places.items (length c.args.inst.now.monitors)) all c.loop-place.invariant)
