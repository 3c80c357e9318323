use Rattle.std.proofs.Common.{◌≡◌, get_or, length, subst, arith}
use Rattle.std.proofs.lemmas.Option.{slice_get-get_or}
use Rattle.event_monitors.proofs.Listing.{AreListedTo, all_listed, one_listed}
use Rattle.event_monitors.proofs.TurnLaws.{no_post}
use Rattle.event_monitors.proofs.lists.lists_of.Goals as goal
use Rattle.khe_instance.proofs.MadeLemmas.{monitor_made}

pub add-requires-clause-monitor : goal.add-requires-clause-monitor
add-requires-clause-monitor g c =
    let posts = c.args.posts.now in
    let k = c.loop-place.place in
    let a = get_or posts k no_post in
    monitor_made c.args.inst.now c.facts.ensures a.number.0 a.monitor
    (c.requires.each k a (slice_get-get_or posts k no_post c.loop-place-test.true)).there

pub loop-place-preserved : goal.loop-place-preserved
loop-place-preserved g c =
    let posts = c.args.posts.now in
    let k = c.loop-place.place in
    one_listed c.args.inst.now posts c.loop-place.lists c.add.new.lists k (get_or posts k no_post)
    (slice_get-get_or posts k no_post c.loop-place-test.true) c.loop-place.invariant c.in_ok-add.ensures

pub returns : goal.returns
returns g c =
    let posts = c.args.posts.now in
    let all : c.loop-place.place ≡ length posts = let past = c.loop-place-test.false in let most =
    c.loop-place.auto.place-end in omega (arith, past, most) in
    all_listed c.args.inst.now posts c.loop-place.lists
    (subst (AreListedTo c.args.inst.now posts c.loop-place.lists) all c.loop-place.invariant)
