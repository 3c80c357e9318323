use Rattle.std.proofs.Common.{[], refl}
use Rattle.xhstt_text.specs.Machine.{early, run, resume, content}
use Rattle.xhstt_text.specs.Reading.{read_of, frames_of}
use Rattle.xhstt_text.proofs.Follow.{fails_with, leads_from, passes_on}
use Rattle.xhstt_text.proofs.FollowStartTags.{no_root, over_root}
use Rattle.xhstt_text.proofs.tags.root.Goals as goal

pub returns-in_err-tag-clause-leads : goal.returns-in_err-tag-clause-leads
returns-in_err-tag-clause-leads c =
    let h = c.args.here in
    passes_on c.from_residual.result c.in_err-tag.field-0.0 (run content (read_of [] [] []) h.at h.rest.now) _ _
    c.from_residual.ensures.1 refl (c.in_err-tag.ensures.leads early [] [])

pub returns-in_default-clause-leads : goal.returns-in_default-clause-leads
returns-in_default-clause-leads c =
    let h = c.args.here in
    let a = c.in_ok-tag.tag in
    fails_with c.bad_markup.result _ _ c.bad_markup.ensures
    (no_root (run content (read_of [] [] []) h.at h.rest.now) a.at a.rest.now (c.in_ok-tag.ensures.leads early [] [])
    c.in_ok-tag.ensures.stops.0 c.in_default.ensures)

pub returns-clause-leads : goal.returns-clause-leads
returns-clause-leads c =
    let t = c.args.table.now in
    let h = c.args.here in
    let a = c.in_ok-tag.tag in
    let i = c.in-Some.inside in
    let n = c.start_tag.new.table in
    leads_from c.start_tag.result (run content (read_of [] [] []) h.at h.rest.now) _
    (λ q. run (resume (frames_of n.stack.items)) (read_of (frames_of n.stack.items) n.nodes.items
    n.attributes.items) q.at q.rest.now)
    (over_root t.stack.items t.nodes.items t.attributes.items (run content (read_of [] [] []) h.at h.rest.now) a.at
    a.rest.now i.at i.rest.now c.requires.stack c.requires.nodes c.requires.attributes
    (c.in_ok-tag.ensures.leads early [] []) c.in-Some.ensures)
    c.start_tag.ensures.leads
