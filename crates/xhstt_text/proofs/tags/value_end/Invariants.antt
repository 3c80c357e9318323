use Rattle.std.proofs.Common.{◌≡◌, ◌≤◌, ℕ, List, length}
use Rattle.xhstt_text.specs.Machine.{Tag, Read, in_value, run}
use Rattle.xhstt_text.proofs.tags.value_end.Given as goal

abbrev pub invariant-pieces : goal.invariant-pieces
invariant-pieces l = record {
  follows : (t : Tag) (place : ℕ) (known : List ℕ) (start : ℕ) (r : Read)
      → run (in_value t place known l.mark start) r l.fn.from.at l.fn.from.rest.now
      ≡ run (in_value t place known l.mark start) r l.here.at l.here.rest.now;
  few : length l.here.rest.now ≤ length l.fn.from.rest.now;
  place : l.fn.from.at ≤ l.here.at;
}

abbrev pub decreases-pieces : goal.decreases-pieces
decreases-pieces l = length l.here.rest.now
