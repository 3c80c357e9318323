use Rattle.std.proofs.Common.{◌≡◌, ◌≤◌, ◌+◌, length}
use Rattle.xhstt_text.specs.Machine.{Region, Read, in_comment, run}
use Rattle.xhstt_text.proofs.comments.comment_end.Given as goal

abbrev pub invariant-bytes : goal.invariant-bytes
invariant-bytes l = record {
  follows : (place : Region) (r : Read) → run (in_comment place 0) r l.fn.from.at l.fn.from.rest.now
      ≡ run (in_comment place l.dashes) r l.here.at l.here.rest.now;
  few : l.dashes + length l.here.rest.now ≤ length l.fn.from.rest.now;
  place : l.fn.from.at ≤ l.here.at;
}

abbrev pub decreases-bytes : goal.decreases-bytes
decreases-bytes l = length l.here.rest.now
