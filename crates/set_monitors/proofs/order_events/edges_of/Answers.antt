use Rattle.std.proofs.Common.{◌<◌, ◌∙◌, [], Some, length, sym, ap, arith}
use Rattle.std.proofs.lemmas.Option.{get_or_from_slice_get, slice_get-get_or}
use Rattle.set_monitors.proofs.OrderTurnLaws.{one_opened}
use Rattle.set_monitors.proofs.order_events.edges_of.Goals as goal

pub loop-i-preserved : goal.loop-i-preserved
loop-i-preserved c =
    let lists = c.args.lists.now in
    let n = c.loop-i.i in
    let list = c.index-lists-i.result in
    let l : n < length lists = let t = c.loop-i-test.true in let m = c.events-i-end.ensures in let r = c.requires in
    omega (arith, t, m, r) in
    one_opened c.args.inst.now lists c.loop-i.edges.items _ n c.slots_for-slots.result c.event.result.now
    c.in_ok-open.field-0 c.event.ensures
    (λ watched. c.slots_for-slots.ensures (λ none. watched
    (get_or_from_slice_get lists n list [] (slice_get-get_or lists n list l ∙ ap Some (sym c.index-lists-i.is))
    ∙ none)))
    c.in_ok-open.ensures.starts c.in_ok-open.ensures.ends c.in_ok-push.ensures.items c.loop-i.invariant
