use Rattle.std.proofs.Common.{◌≡◌, ◌≤◌, ◌+◌, ℕ, min, length}
use Rattle.xhstt_text.specs.Machine.{Read, Within, run}
use Rattle.xhstt_text.proofs.Numbers.{hexadecimal_phase}
use Rattle.xhstt_text.proofs.references.hexadecimal.Given as goal

abbrev pub invariant-digits : goal.invariant-digits
invariant-digits l = record {
  follows : (n : ℕ) × (l.number ≡ min n 1114112) × (l.digits ≡ 0 → n ≡ 0)
      × ((w : Within) (r : Read) → run (hexadecimal_phase l.fn.place 0 0 w) r l.fn.from.at l.fn.from.rest.now
      ≡ run (hexadecimal_phase l.fn.place l.digits n w) r l.here.at l.here.rest.now);
  few : l.digits + length l.here.rest.now ≤ length l.fn.from.rest.now;
  place : l.fn.from.at ≤ l.here.at;
}

abbrev pub decreases-digits : goal.decreases-digits
decreases-digits l = length l.here.rest.now
