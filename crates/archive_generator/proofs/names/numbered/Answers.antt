-- The word, and then the digits, whose characters are their bytes.
use Rattle.std.proofs.Common.{◌∙◌, ◌++◌, ap}
use Rattle.std.proofs.lemmas.Str.{chars-IsAscii}
use Rattle.khe_base.specs.Text.{characters}
use Rattle.archive_generator.proofs.names.numbered.Goals as goal

pub returns : goal.returns
returns c =
    let digits = chars-IsAscii c.format-digits.result.now c.format-digits.ensures.ascii ∙ c.format-digits.ensures.text in
    c.in_ok-push_str.ensures.ok
    ∙ ap (λ t. t ++ characters c.format-digits.result.now) (c.in_ok-push_literal.ensures.ok
    ∙ ap (λ t. t ++ c.args.word.now) c.in_ok-text.ensures)
    ∙ ap (λ t. c.args.word.now ++ t) digits
