use Rattle.std.proofs.Common.{◌∙◌, ◌*◌, ◌+◌, arith}
use Rattle.xhstt_text.proofs.Numbers.{decimal_step, capped_decimal, taken_length}
use Rattle.xhstt_text.specs.Units.{is_decimal}
use Rattle.xhstt_text.proofs.references.decimal.Goals as goal

pub digits-preserved : goal.digits-preserved
digits-preserved c =
    let h = c.digits.here in
    let was = c.digits.invariant.follows in
    let value = c.in-Some.value in
    let next = c.in-Some.next in
    let longer = taken_length is_decimal h.at h.rest.now value next.at next.rest.now c.in-Some.ensures in
    record {
      follows = (
        was.0 * 10 + value,
        c.min-number.ensures ∙ capped_decimal was.0 value c.digits.number was.1,
        λ z. absurd (omega arith),
        λ w r. was.3 w r ∙ decimal_step c.args.place c.digits.digits was.0 value w r h.at h.rest.now next.at
            next.rest.now was.2 c.in-Some.ensures,
      );
      first = λ z. absurd (omega arith);
      few = omega (arith, c.digits.invariant.few, longer);
      place = omega (arith, c.digits.invariant.place, longer);
    }
