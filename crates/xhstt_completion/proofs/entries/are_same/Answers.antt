-- The characters are the same exactly where the bytes are.
use Rattle.std.proofs.Common.{◌∙◌, sym}
use Rattle.khe_base.proofs.TextLemmas.{bytes_eq-characters}
use Rattle.xhstt_completion.proofs.entries.are_same.Goals as goal

pub returns : goal.returns
returns c = c.eq.ensures ∙ sym (bytes_eq-characters _ _ c.utf8.x c.utf8.y)
