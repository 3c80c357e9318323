-- Events one by one.
use Rattle.xhstt_references.specs.References.{repeated, roles_of}
use Rattle.xhstt_references.proofs.FirstLemmas.{walk_step, walk_end}
use Rattle.xhstt_references.proofs.repeats.repeated_roles.Goals as goal

pub loop-event-preserved : goal.loop-event-preserved
loop-event-preserved c =
    walk_step (λ e. repeated (roles_of e)) _ _ _ _ _ _ c.loop-event-test.true c.event-item.is
    c.in_ok-note_repeated_roles.ensures c.loop-event.invariant

pub returns : goal.returns
returns c = walk_end (λ e. repeated (roles_of e)) _ _ _ _ c.loop-event-test.false c.loop-event.invariant
