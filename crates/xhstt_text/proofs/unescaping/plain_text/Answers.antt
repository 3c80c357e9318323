use Rattle.std.proofs.Common.{◌≡◌, ◌∙◌, sym, subst, ℕ, List, [], IfOk, unwrap_or}
use Rattle.khe_base.specs.Text.{text_of}
use Rattle.xhstt_text.proofs.PlainTexts.{plain_after-plain}
use Rattle.xhstt_text.proofs.unescaping.plain_text.Goals as goal

pub returns-then-are_plain : goal.returns-then-are_plain
returns-then-are_plain c =
    subst (λ (xs : List ℕ). IfOk c.text_or_empty.result (λ t. t ≡ unwrap_or (text_of xs) []))
    (sym (plain_after-plain c.args.span.now (sym c.are_plain.ensures ∙ c.if-are_plain.true))) c.text_or_empty.ensures
