-- What was written and what the rest stands for are together what the whole stands for.
use Rattle.std.proofs.Common.{◌≡◌, ◌++◌, [], drop}
use Rattle.xhstt_text.specs.UnescapeMachine.{plain_after}
use Rattle.xhstt_text.specs.declared.unescaping.Part.TheVariants.{Plain}
use Rattle.xhstt_text.proofs.unescaping.plain_of.Given as goal

abbrev pub invariant-loop-byte : goal.invariant-loop-byte
invariant-loop-byte l =
    l.plain.items ++ plain_after l.part l.name.items (drop l.byte-index l.span) ≡ plain_after Plain [] l.span
