use Rattle.std.proofs.Common.{◌<◌, ◌≤◌, ◌∙◌, length, arith}
use Rattle.xhstt_text.specs.Bytes.{is_quoted}
use Rattle.xhstt_text.specs.Machine.{in_value, in_quotes}
use Rattle.xhstt_text.proofs.Follow.{passes_on, none_found, some_found, skip_length}
use Rattle.xhstt_text.proofs.FollowValues.{over_value_bytes, value_enters}
use Rattle.xhstt_text.proofs.tags.value_end.Goals as goal

pub returns-in_err-next-clause-leads : goal.returns-in_err-next-clause-leads
returns-in_err-next-clause-leads c = λ t place known start r.
    let mark = c.args.mark in
    let h = c.pieces.here in
    let a = c.quoted-stop.result in
    passes_on c.from_residual.result c.in_err-next.field-0.0 _ _ _ c.from_residual.ensures.1
    (c.pieces.invariant.follows t place known start r
    ∙ over_value_bytes t place known mark start r h.at h.rest.now a.at a.rest.now c.quoted-stop.ensures)
    (c.in_err-next.ensures.leads (in_value t place known mark start) (in_quotes t place known mark start) r r
    (value_enters t place known mark start r a.at c.requires))

pub returns-in_default-clause-leads : goal.returns-in_default-clause-leads
returns-in_default-clause-leads c = λ t place known start r.
    let h = c.pieces.here in
    let a = c.quoted-stop.result in
    c.pieces.invariant.follows t place known start r
    ∙ over_value_bytes t place known c.args.mark start r h.at h.rest.now a.at a.rest.now c.quoted-stop.ensures

pub returns-in_default-clause-stops : goal.returns-in_default-clause-stops
returns-in_default-clause-stops c = (
  c.quoted-stop.ensures.4,
  none_found _ _ _ c.in_default.is
      c.in_ok-next.ensures.onward,
)

pub pieces-preserved : goal.pieces-preserved
pieces-preserved c =
    let mark = c.args.mark in
    let h = c.pieces.here in
    let a = c.quoted-stop.result in
    let n = c.in-Some.next in
    let on : (length n.rest.now < length a.rest.now) × (a.at ≤ n.at) =
    some_found _ _ _ n c.in-Some.is c.in_ok-next.ensures.onward in
    let skipped = skip_length (is_quoted mark) h.at h.rest.now a.at a.rest.now c.quoted-stop.ensures in
    record {
      follows = λ t place known start r.
          c.pieces.invariant.follows t place known start r
          ∙ over_value_bytes t place known mark start r h.at h.rest.now a.at a.rest.now c.quoted-stop.ensures
          ∙ some_found _ _ _ n c.in-Some.is (c.in_ok-next.ensures.leads (in_value t place known mark start)
          (in_quotes t place known mark start) r r (value_enters t place known mark start r a.at c.requires));
      few = omega (arith, c.pieces.invariant.few, on, skipped);
      place = omega (arith, c.pieces.invariant.place, on, skipped);
    }
