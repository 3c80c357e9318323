use Rattle.std.proofs.Common.{◌+◌, ◌-◌, ◌/◌, arith}
use Rattle.set_monitors.proofs.RoleLaws.{sought_done, sought_down, sought_up}
use Rattle.set_monitors.proofs.role_places.sought.Goals as goal

pub loop-low-preserved-then-here-event : goal.loop-low-preserved-then-here-event
loop-low-preserved-then-here-event c =
    sought_up c.args.list.now c.args.event.0 c.loop-low.low c.loop-low.end
    (c.loop-low.low + (c.loop-low.end - c.loop-low.low) / 2) c.event_at-here.result c.requires c.event_at-here.ensures
    c.if-here-event.true (omega (arith, c.loop-low-test.true)) c.loop-low.invariant

pub loop-low-preserved : goal.loop-low-preserved
loop-low-preserved c =
    sought_down c.args.list.now c.args.event.0 c.loop-low.low c.loop-low.end
    (c.loop-low.low + (c.loop-low.end - c.loop-low.low) / 2) c.event_at-here.result c.requires c.event_at-here.ensures
    (omega (arith, c.if-here-event.false)) (omega (arith, c.loop-low-test.true)) c.loop-low.invariant

pub returns : goal.returns
returns c = sought_done c.args.list.now c.args.event.0 c.loop-low.low c.loop-low.end
    (omega (arith, c.loop-low-test.false))
    c.loop-low.invariant
