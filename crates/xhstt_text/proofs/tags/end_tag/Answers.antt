use Rattle.std.proofs.Common.{◌≡◌, ◌∷◌, ◌∙◌, sym}
use Rattle.xhstt_text.specs.Machine.{Read, close_element}
use Rattle.xhstt_text.specs.Reading.{read_of, frame_of, frames_of}
use Rattle.xhstt_text.proofs.Follow.{fails_with, known_name, new_name}
use Rattle.xhstt_text.proofs.FollowEndTags.{shut_unnamed, shut_colon, unended, mismatched, shut_read}
use Rattle.xhstt_text.proofs.tags.end_tag.Goals as goal

pub returns-in_default-clause-leads : goal.returns-in_default-clause-leads
returns-in_default-clause-leads c =
    let t = c.args.table.now in
    let h = c.args.shut in
    fails_with c.bad_markup.result _ _ c.bad_markup.ensures
    (shut_unnamed (read_of (frame_of c.args.inner.now ∷ frames_of t.stack.items) t.nodes.items t.attributes.items) c.args.at
    h.at h.rest.now c.in_default.ensures)

pub returns-then-next_is-clause-leads : goal.returns-then-next_is-clause-leads
returns-then-next_is-clause-leads c =
    let t = c.args.table.now in
    let h = c.args.shut in
    let d = c.in-Some.after in
    fails_with c.unsupported.result _ _ c.unsupported.ensures
    (shut_colon (read_of (frame_of c.args.inner.now ∷ frames_of t.stack.items) t.nodes.items t.attributes.items) c.args.at
    h.at h.rest.now c.in-Some.found.now d.at d.rest.now c.in-Some.ensures
    (sym c.next_is.ensures ∙ c.if-next_is.true))

pub returns-in_default-past-clause-leads : goal.returns-in_default-past-clause-leads
returns-in_default-past-clause-leads c =
    let t = c.args.table.now in
    let h = c.args.shut in
    let d = c.in-Some.after in
    let a = c.white-last.result in
    fails_with c.bad_markup-in_default-past.result _ _ c.bad_markup-in_default-past.ensures
    (unended (frame_of c.args.inner.now) (frames_of t.stack.items) t.nodes.items t.attributes.items c.args.at h.at
    h.rest.now c.in-Some.found.now d.at d.rest.now a.at a.rest.now c.in-Some.ensures
    (sym c.next_is.ensures ∙ c.if-next_is.false) c.white-last.ensures c.in_default-past.ensures)

pub returns-then-ne-clause-leads : goal.returns-then-ne-clause-leads
returns-then-ne-clause-leads c =
    let t = c.args.table.now in
    let h = c.args.shut in
    let d = c.in-Some.after in
    let a = c.white-last.result in
    let e = c.in-Some-past.end in
    fails_with c.mismatched_end.result _ _ c.mismatched_end.ensures
    (mismatched (frame_of c.args.inner.now) (frames_of t.stack.items) t.nodes.items t.attributes.items c.args.at h.at
    h.rest.now c.in-Some.found.now d.at d.rest.now a.at a.rest.now e.at e.rest.now c.in-Some.ensures
    (sym c.next_is.ensures ∙ c.if-next_is.false) c.white-last.ensures c.in-Some-past.ensures
    (new_name _ _ c.ne.ensures c.if-ne.true))

pub returns-clause-leads : goal.returns-clause-leads
returns-clause-leads c =
    let t = c.args.table.now in
    let h = c.args.shut in
    let d = c.in-Some.after in
    let a = c.white-last.result in
    let e = c.in-Some-past.end in
    let n = c.close.new.self in
    let s : Read = read_of (frames_of n.stack.items) n.nodes.items n.attributes.items in
    let same : s ≡ close_element (frame_of c.args.inner.now) (frames_of t.stack.items)
    (read_of (frame_of c.args.inner.now ∷ frames_of t.stack.items) t.nodes.items t.attributes.items) c.args.at =
    cc (c.close.ensures.nodes, c.close.ensures.attributes, c.close.ensures.stack) in
    shut_read (frame_of c.args.inner.now) (frames_of t.stack.items) t.nodes.items t.attributes.items c.args.at h.at
    h.rest.now c.in-Some.found.now d.at d.rest.now a.at a.rest.now e.at e.rest.now s c.in-Some.ensures
    (sym c.next_is.ensures ∙ c.if-next_is.false) c.white-last.ensures c.in-Some-past.ensures
    (known_name _ _ c.ne.ensures c.if-ne.false) same
