-- Bytes that are UTF-8 are those of the text that they spell, and others spell none.
use Rattle.std.proofs.Common.{◌≡◌, ℕ, List, [], ◌==◌, ap, sym, ◌∙◌, not, unwrap_or, length}
use Rattle.std.specs.Str.{IsUtf8}
use Rattle.std.proofs.lemmas.Str.{encodes-chars}
use Rattle.khe_base.specs.Text.{text_of}
use Rattle.khe_base.proofs.TextLemmas.{text_of-IsUtf8, text_of-not_utf8}
use Rattle.xhstt_shape.specs.Contents.{is_blank}
use Rattle.xhstt_shape.proofs.contents.spells_some.Goals as goal

blank : (bytes : List ℕ) → IsUtf8 bytes → is_blank (unwrap_or (text_of bytes) []) ≡ (length bytes == 0)
blank bytes utf8 =
    ap (λ o. is_blank (unwrap_or o [])) (sym (text_of-IsUtf8 bytes utf8))
    ∙ ap (λ b. length b == 0) (encodes-chars bytes utf8)

pub returns-in-Ok : goal.returns-in-Ok
returns-in-Ok c =
    ap not (c.is_empty.ensures ∙ ap (λ b. length b == 0) c.in-Ok.ensures.cases.0
    ∙ sym (blank c.args.bytes.now c.in-Ok.ensures.cases.1))

pub returns-in-Err : goal.returns-in-Err
returns-in-Err c = ap (λ o. not (is_blank (unwrap_or o []))) (text_of-not_utf8 c.args.bytes.now c.in-Err.ensures.cases.0)
