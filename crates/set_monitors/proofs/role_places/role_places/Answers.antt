use Rattle.std.proofs.Common.{get_or}
use Rattle.std.proofs.lemmas.Option.{slice_get-get_or}
use Rattle.set_monitors.proofs.RoleLaws.{all_come, coming_more}
use Rattle.set_monitors.proofs.role_places.role_places.Goals as goal

pub loop-event-preserved : goal.loop-event-preserved
loop-event-preserved c =
    coming_more c.args.inst.now c.args.monitor c.members-events.result.now c.loop-event.list c.add_place.new.list
    c.loop-event.event-index (get_or c.members-events.result.now c.loop-event.event-index 0)
    c.members-events.ensures.ascending
    (slice_get-get_or c.members-events.result.now c.loop-event.event-index 0 c.loop-event-test.true)
    c.in_ok-add_place.ensures c.loop-event.invariant

pub returns : goal.returns
returns c = all_come c.args.inst.now c.args.monitor c.members-events.result.now c.loop-event.list
    c.loop-event.event-index c.loop-event.invariant c.loop-event-test.false c.members-events.ensures.named
