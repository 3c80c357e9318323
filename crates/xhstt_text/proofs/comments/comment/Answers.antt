use Rattle.xhstt_text.proofs.Follow.{fails_with}
use Rattle.xhstt_text.proofs.FollowComments.{no_dash}
use Rattle.xhstt_text.proofs.comments.comment.Goals as goal

pub returns-in_default-clause-leads : goal.returns-in_default-clause-leads
returns-in_default-clause-leads c = λ place r.
    let h = c.args.from in
    fails_with c.other_markup.result _ _ c.other_markup.ensures
    (no_dash c.args.at place r h.at h.rest.now c.in_default.ensures)
