-- Bytes that stand for themselves are the text that they spell.
use Rattle.std.proofs.Common.{◌∙◌, sym, ap, [], unwrap_or}
use Rattle.khe_base.specs.Text.{characters, text_of}
use Rattle.khe_base.proofs.TextLemmas.{text_of-IsUtf8}
use Rattle.xhstt_text.proofs.PlainTexts.{plain_after-plain}
use Rattle.xhstt_text.proofs.unescaping.as_it_stands.Goals as goal

pub returns-in-Ok : goal.returns-in-Ok
returns-in-Ok c =
    let cases = c.in-Ok.ensures.cases in
    ap characters cases.0
    ∙ ap (λ o. unwrap_or o []) (text_of-IsUtf8 c.args.span.now cases.1)
    ∙ ap (λ xs. unwrap_or (text_of xs) [])
    (sym (plain_after-plain c.args.span.now (sym c.are_plain.ensures ∙ c.if-not-are_plain.false)))
