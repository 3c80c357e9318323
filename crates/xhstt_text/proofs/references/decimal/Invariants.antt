use Rattle.std.proofs.Common.{◌≡◌, false, ◌≤◌, ◌+◌, ℕ, min, length}
use Rattle.xhstt_text.specs.Machine.{Read, Within, run}
use Rattle.xhstt_text.specs.Reading.{begins, is_byte}
use Rattle.xhstt_text.proofs.Numbers.{decimal_phase}
use Rattle.xhstt_text.proofs.references.decimal.Given as goal

abbrev pub invariant-digits : goal.invariant-digits
invariant-digits l = record {
  follows : (n : ℕ) × (l.number ≡ min n 1114112) × (l.digits ≡ 0 → n ≡ 0)
      × ((w : Within) (r : Read) → run (decimal_phase l.fn.place 0 0 w) r l.fn.from.at l.fn.from.rest.now
      ≡ run (decimal_phase l.fn.place l.digits n w) r l.here.at l.here.rest.now);
  first : l.digits ≡ 0 → begins (is_byte 120) l.here.rest.now ≡ false;
  few : l.digits + length l.here.rest.now ≤ length l.fn.from.rest.now;
  place : l.fn.from.at ≤ l.here.at;
}

abbrev pub decreases-digits : goal.decreases-digits
decreases-digits l = length l.here.rest.now
