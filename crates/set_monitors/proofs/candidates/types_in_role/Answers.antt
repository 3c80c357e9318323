use Rattle.set_monitors.proofs.CandidateLaws.{found_all}
use Rattle.set_monitors.proofs.candidates.types_in_role.Goals as goal

pub returns : goal.returns
returns c = found_all c.args.inst.now c.args.monitor c.members-events.result.now c.loop-event.types
    c.loop-event.event-index c.loop-event.invariant c.loop-event-test.false c.members-events.ensures.named
