use Rattle.std.proofs.Common.{◌<◌, ◌≤◌, ◌∷◌, ◌∙◌, length, arith}
use Rattle.xhstt_text.specs.Bytes.{is_text}
use Rattle.xhstt_text.specs.Machine.{content, in_text}
use Rattle.xhstt_text.specs.Reading.{read_of}
use Rattle.xhstt_text.proofs.Follow.{passes_on, none_found, some_found, skip_length}
use Rattle.xhstt_text.proofs.FollowText.{over_known_text, text_enters}
use Rattle.xhstt_text.proofs.tags.known_text.Goals as goal

pub returns-in_err-next-clause-leads : goal.returns-in_err-next-clause-leads
returns-in_err-next-clause-leads c = λ f fs nodes rows place e.
    let h = c.pieces.here in
    let a = c.text-stop.result in
    passes_on c.from_residual.result c.in_err-next.field-0.0 _ _ _ c.from_residual.ensures.1
    (c.pieces.invariant.follows f fs nodes rows place e
    ∙ over_known_text f fs nodes rows place e h.at h.rest.now a.at a.rest.now c.text-stop.ensures)
    (c.in_err-next.ensures.leads content in_text (read_of (f ∷ fs) nodes rows) (read_of (f ∷ fs) nodes rows)
    (text_enters f fs nodes rows place e a.at))

pub returns-in_default-clause-leads : goal.returns-in_default-clause-leads
returns-in_default-clause-leads c = λ f fs nodes rows place e.
    let h = c.pieces.here in
    let a = c.text-stop.result in
    c.pieces.invariant.follows f fs nodes rows place e
    ∙ over_known_text f fs nodes rows place e h.at h.rest.now a.at a.rest.now c.text-stop.ensures

pub returns-in_default-clause-stops : goal.returns-in_default-clause-stops
returns-in_default-clause-stops c = (
  c.text-stop.ensures.4,
  none_found _ _ _ c.in_default.is
      c.in_ok-next.ensures.onward,
)

pub pieces-preserved : goal.pieces-preserved
pieces-preserved c =
    let h = c.pieces.here in
    let a = c.text-stop.result in
    let n = c.in-Some.next in
    let on : (length n.rest.now < length a.rest.now) × (a.at ≤ n.at) =
    some_found _ _ _ n c.in-Some.is c.in_ok-next.ensures.onward in
    let skipped = skip_length is_text h.at h.rest.now a.at a.rest.now c.text-stop.ensures in
    record {
      follows = λ f fs nodes rows place e.
          c.pieces.invariant.follows f fs nodes rows place e
          ∙ over_known_text f fs nodes rows place e h.at h.rest.now a.at a.rest.now c.text-stop.ensures
          ∙ some_found _ _ _ n c.in-Some.is (c.in_ok-next.ensures.leads content in_text (read_of (f ∷ fs) nodes rows)
          (read_of (f ∷ fs) nodes rows) (text_enters f fs nodes rows place e a.at));
      few = omega (arith, c.pieces.invariant.few, on, skipped);
      place = omega (arith, c.pieces.invariant.place, on, skipped);
    }
