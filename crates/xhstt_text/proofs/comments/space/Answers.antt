use Rattle.std.proofs.Common.{◌∙◌, [], arith}
use Rattle.xhstt_text.specs.Bytes.{is_white}
use Rattle.xhstt_text.specs.Reading.{read_of}
use Rattle.xhstt_text.proofs.Follow.{passes_on, skip_place}
use Rattle.xhstt_text.proofs.FollowOutside.{over_space, over_bang}
use Rattle.xhstt_text.proofs.comments.space.Goals as goal

pub returns-in_default-clause-leads : goal.returns-in_default-clause-leads
returns-in_default-clause-leads c = λ place nodes rows.
    let h = c.space.here in
    let a = c.white-start.result in
    c.space.invariant.follows place nodes rows ∙ over_space place nodes rows h.at h.rest.now a.at a.rest.now
    c.white-start.ensures

pub returns-in_default-past-clause-leads : goal.returns-in_default-past-clause-leads
returns-in_default-past-clause-leads c = λ place nodes rows.
    let h = c.space.here in
    let a = c.white-start.result in
    c.space.invariant.follows place nodes rows ∙ over_space place nodes rows h.at h.rest.now a.at a.rest.now
    c.white-start.ensures

pub returns-in_err-here-clause-leads : goal.returns-in_err-here-clause-leads
returns-in_err-here-clause-leads c = λ place nodes rows.
    let h = c.space.here in
    let a = c.white-start.result in
    let t = c.in-Some.tag in
    let b = c.in-Some-past.bang in
    passes_on c.from_residual.result c.in_err-here.field-0.0 _ _ _ c.from_residual.ensures.1
    (c.space.invariant.follows place nodes rows ∙ over_bang place nodes rows h.at h.rest.now a.at a.rest.now t.at
    t.rest.now b.at b.rest.now c.white-start.ensures c.in-Some.ensures c.in-Some-past.ensures)
    (c.in_err-here.ensures.leads place (read_of [] nodes rows))

pub space-preserved : goal.space-preserved
space-preserved c =
    let h = c.space.here in
    let a = c.white-start.result in
    let t = c.in-Some.tag in
    let b = c.in-Some-past.bang in
    record {
      follows = λ place nodes rows.
          c.space.invariant.follows place nodes rows
          ∙ over_bang place nodes rows h.at h.rest.now a.at a.rest.now t.at t.rest.now b.at b.rest.now
          c.white-start.ensures c.in-Some.ensures c.in-Some-past.ensures
          ∙ c.in_ok-here.ensures.leads place (read_of [] nodes rows);
      place = omega (
        arith,
        c.space.invariant.place,
        skip_place is_white h.at h.rest.now a.at a.rest.now
            c.white-start.ensures,
        c.in-Some.ensures.1,
        c.in-Some-past.ensures.1,
        c.in_ok-here.ensures.onward,
      );
    }
