use Rattle.std.proofs.Common.{◌≡◌, get_or, length, subst, arith}
use Rattle.std.proofs.lemmas.Option.{slice_get-get_or}
use Rattle.event_monitors.proofs.Listing.{AreListedTo, all_listed, none_listed, one_listed}
use Rattle.event_monitors.proofs.TurnLaws.{no_post}
use Rattle.set_monitors.proofs.pair_lists.lists_of.Goals as goal
use Rattle.khe_instance.proofs.MadeLemmas.{monitor_made}

pub add-requires-clause-monitor : goal.add-requires-clause-monitor
add-requires-clause-monitor c =
    let posts = c.args.posts.now in
    let k = c.loop-place.place in
    let a = get_or posts k no_post in
    monitor_made c.args.inst.now c.facts.ensures a.number.0 a.monitor
    (c.requires.each k a (slice_get-get_or posts k no_post c.loop-place-test.true)).there

pub loop-place-preserved : goal.loop-place-preserved
loop-place-preserved c =
    let posts = c.args.posts.now in
    let k = c.loop-place.place in
    one_listed c.args.inst.now posts c.loop-place.lists c.add.new.lists k (get_or posts k no_post)
    (slice_get-get_or posts k no_post c.loop-place-test.true) c.loop-place.invariant c.in_ok-add.ensures

pub returns : goal.returns
returns c =
    let posts = c.args.posts.now in
    let all : c.loop-place.place ≡ length posts = let past = c.loop-place-test.false in let most =
    c.loop-place.auto.place-end in omega (arith, past, most) in
    all_listed c.args.inst.now posts c.loop-place.lists
    (subst (AreListedTo c.args.inst.now posts c.loop-place.lists) all c.loop-place.invariant)

pub loop-place-init : goal.loop-place-init
loop-place-init c = none_listed c.args.inst.now c.args.posts.now _ _ c.events.ensures c.in_ok-lists.ensures

pub add-requires-clause-kind : goal.add-requires-clause-kind
add-requires-clause-kind c = (c.requires.each _ _
    (slice_get-get_or c.args.posts.now c.loop-place.place no_post c.loop-place-test.true)).kind

pub add-requires-clause-rows : goal.add-requires-clause-rows
add-requires-clause-rows c = c.loop-place.invariant.rows
