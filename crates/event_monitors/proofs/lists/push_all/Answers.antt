use Rattle.std.proofs.Common.{◌≡◌, ◌+◌, Some, drop, get_or, slice_get, subst}
use Rattle.std.proofs.lemmas.Option.{slice_get-get_or}
use Rattle.khe_base.proofs.ListLemmas.{drop-there}
use Rattle.event_monitors.proofs.Listing.{AreComing, next_came}
use Rattle.event_monitors.proofs.lists.push_all.Goals as goal

pub loop-event-preserved : goal.loop-event-preserved
loop-event-preserved c =
    let events = c.args.events.now in
    let i = c.loop-event.event-index in
    let j = get_or events i 0 in
    let at : slice_get events i ≡ Some j = slice_get-get_or events i 0 c.loop-event-test.true in
    let coming = subst (AreComing c.args.place c.args.lists.now c.loop-event.lists events) (drop-there events i j at)
    c.loop-event.invariant in
    next_came c.args.place c.args.lists.now c.loop-event.lists _ events (drop (i + 1) events) j (c.requires.once i j at)
    coming c.in_ok-push.ensures
