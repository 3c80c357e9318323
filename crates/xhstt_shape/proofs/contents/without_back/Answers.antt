-- White at the end is left out, and what has none stays as it is.
use Rattle.std.proofs.Common.{sym, ◌∙◌}
use Rattle.xhstt_shape.proofs.Trimming.{without_back-white, without_back-kept}
use Rattle.xhstt_shape.proofs.contents.without_back.Goals as goal

pub returns-then-not-is_white : goal.returns-then-not-is_white
returns-then-not-is_white c =
    without_back-kept c.loop-rest.rest.now c.in-len1-up.len_at_least (sym c.is_white.ensures ∙ c.if-not-is_white.true)
    ∙ c.loop-rest.invariant

pub loop-rest-preserved : goal.loop-rest-preserved
loop-rest-preserved c =
    without_back-white c.loop-rest.rest.now c.in-len1-up.len_at_least (sym c.is_white.ensures ∙ c.if-not-is_white.false)
    ∙ c.loop-rest.invariant
