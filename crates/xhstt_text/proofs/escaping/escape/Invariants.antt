-- What was written is what the characters so far are written as.
use Rattle.std.proofs.Common.{◌≡◌}
use Rattle.xhstt_text.specs.Escape.{escaped}
use Rattle.xhstt_text.proofs.escaping.escape.Given as goal

abbrev pub invariant-loop-character : goal.invariant-loop-character
invariant-loop-character l = l.written ≡ escaped l.yielded
