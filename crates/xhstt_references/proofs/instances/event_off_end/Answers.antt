-- Events one by one.
use Rattle.xhstt_references.specs.References.{off_end}
use Rattle.xhstt_references.proofs.FirstLemmas.{walk_step, walk_end}
use Rattle.xhstt_references.proofs.instances.event_off_end.Goals as goal

pub loop-event-preserved : goal.loop-event-preserved
loop-event-preserved c =
    walk_step (off_end c.args.directory.now) _ _ _ _ _ _ c.loop-event-test.true c.event-item.is c.note_off_end.ensures
    c.loop-event.invariant

pub returns : goal.returns
returns c = walk_end (off_end c.args.directory.now) _ _ _ _ c.loop-event-test.false c.loop-event.invariant
