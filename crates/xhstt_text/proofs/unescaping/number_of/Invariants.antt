-- What the digits so far write goes on to what all of them write.
use Rattle.std.proofs.Common.{◌≡◌, ◌≤◌, drop}
use Rattle.xhstt_text.specs.UnescapeMachine.{number_after}
use Rattle.xhstt_text.proofs.unescaping.number_of.Given as goal

abbrev pub invariant-loop-byte : goal.invariant-loop-byte
invariant-loop-byte l = (l.number ≤ 0x10FFFF)
    × (number_after l.base l.number (drop l.byte-index l.digits) ≡ number_after l.base 0 l.digits)
