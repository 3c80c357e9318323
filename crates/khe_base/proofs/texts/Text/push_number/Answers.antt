-- Digits are ASCII, so the characters of a number are its bytes.
use Rattle.std.proofs.Common.{◌++◌, ◌∙◌, ap}
use Rattle.std.proofs.lemmas.Result.{IfOk-equal}
use Rattle.std.proofs.lemmas.Str.{chars-IsAscii}
use Rattle.khe_base.proofs.texts.Text.push_number.Goals as goal

pub returns-then-number-from-clause-ok : goal.returns-then-number-from-clause-ok
returns-then-number-from-clause-ok c =
    IfOk-equal _ _ _ _ c.push_str.ensures.ok
    (ap (λ t. c.args.self.now ++ t) (chars-IsAscii _ c.format.ensures.ascii ∙ c.format.ensures.text))

pub returns-clause-ok : goal.returns-clause-ok
returns-clause-ok c =
    IfOk-equal _ _ _ _ c.push_str-2.ensures.ok
    (ap (λ t. c.args.self.now ++ t) (chars-IsAscii _ c.format-2.ensures.ascii ∙ c.format-2.ensures.text))
