-- Roles one by one.
use Rattle.xhstt_references.proofs.RepeatsLemmas.{role_step, roles_end}
use Rattle.xhstt_references.proofs.repeats.note_repeated_roles.Goals as goal

pub loop-place-preserved : goal.loop-place-preserved
loop-place-preserved c =
    role_step (λ r. r.role) _ _ _ _ _ _ _ c.loop-place-test.true c.place-item.is
    c.in_ok-note_repeated_role.ensures.names c.in_ok-note_repeated_role.ensures.first c.loop-place.invariant

pub returns : goal.returns
returns c = roles_end (λ r. r.role) _ _ _ _ c.loop-place-test.false c.loop-place.invariant
