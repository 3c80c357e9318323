use Rattle.std.proofs.Common.{◌≡◌, ◌<◌, length, arith, sym, ap, ◌∙◌}
use Rattle.xhstt_text.specs.Machine.{run, resume, opened, valued}
use Rattle.xhstt_text.specs.Reading.{read_of, frames_of, bare}
use Rattle.xhstt_text.proofs.Follow.{fails_with, passes_on, leads_from}
use Rattle.xhstt_text.proofs.FollowStartTags.{not_named, start_colon, over_start_name, length_frames}
use Rattle.xhstt_text.proofs.tags.start_tag.Goals as goal

pub returns-in_default-clause-leads : goal.returns-in_default-clause-leads
returns-in_default-clause-leads c =
    let t = c.args.table.now in
    let h = c.args.inside in
    fails_with c.unopened.result _ _ c.unopened.ensures
    (not_named (frames_of t.stack.items) t.nodes.items t.attributes.items c.args.at h.at h.rest.now c.requires.start
    c.in_default.ensures)

pub returns-then-next_is-clause-leads : goal.returns-then-next_is-clause-leads
returns-then-next_is-clause-leads c =
    let t = c.args.table.now in
    let h = c.args.inside in
    let d = c.in-Some.after in
    let few : length (frames_of t.stack.items) < 32 = omega (arith, length_frames t.stack.items) in
    fails_with c.unsupported.result _ _ c.unsupported.ensures
    (start_colon (frames_of t.stack.items) t.nodes.items t.attributes.items c.args.at h.at h.rest.now
    c.in-Some.found.now d.at d.rest.now few c.in-Some.ensures (sym c.next_is.ensures ∙ c.if-next_is.true))

pub returns-in_err-last-clause-leads : goal.returns-in_err-last-clause-leads
returns-in_err-last-clause-leads c =
    let t = c.args.table.now in
    let h = c.args.inside in
    let d = c.in-Some.after in
    let fs = frames_of t.stack.items in
    let few : length fs < 32 = omega (arith, length_frames t.stack.items) in
    let first : c.len-first.result ≡ length t.attributes.items = omega (arith, t.attributes.ok.0) in
    passes_on c.from_residual.result c.in_err-last.field-0.0
    (run (opened c.args.at) (read_of fs t.nodes.items t.attributes.items) h.at h.rest.now) _ _
    c.from_residual.ensures.1
    (over_start_name fs t.nodes.items t.attributes.items c.args.at h.at h.rest.now c.in-Some.found.now d.at d.rest.now
    c.len-first.result first few c.in-Some.ensures (sym c.next_is.ensures ∙ c.if-next_is.false))
    (c.in_err-last.ensures.leads fs t.nodes.items c.args.at c.in-Some.found.now c.len-first.result)

pub returns-clause-leads : goal.returns-clause-leads
returns-clause-leads c =
    let t = c.args.table.now in
    let h = c.args.inside in
    let d = c.in-Some.after in
    let fs = frames_of t.stack.items in
    let n = c.end_of_start.new.table in
    let few : length fs < 32 = omega (arith, length_frames t.stack.items) in
    let first : c.len-first.result ≡ length t.attributes.items = omega (arith, t.attributes.ok.0) in
    leads_from c.end_of_start.result (run (opened c.args.at) (read_of fs t.nodes.items t.attributes.items) h.at
    h.rest.now) _ (λ q. run (resume (frames_of n.stack.items))
    (read_of (frames_of n.stack.items) n.nodes.items n.attributes.items) q.at q.rest.now)
    (over_start_name fs t.nodes.items t.attributes.items c.args.at h.at h.rest.now c.in-Some.found.now d.at d.rest.now
    c.len-first.result first few c.in-Some.ensures (sym c.next_is.ensures ∙ c.if-next_is.false)
    ∙ c.in_ok-last.ensures.leads fs t.nodes.items c.args.at c.in-Some.found.now c.len-first.result
    ∙ ap (λ place. run (valued (bare place c.in-Some.found.now c.len-first.result))
    (read_of fs t.nodes.items c.attributes.new.rows.items) c.in_ok-last.last.at c.in_ok-last.last.rest.now)
    (sym c.of.ensures))
    c.end_of_start.ensures.leads
