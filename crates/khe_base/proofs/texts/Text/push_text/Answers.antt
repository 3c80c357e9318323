-- The bytes of a text spell its characters.
use Rattle.std.proofs.Common.{◌++◌, ◌∙◌, ap}
use Rattle.std.proofs.lemmas.Result.{IfOk-equal}
use Rattle.khe_base.specs.Text.{characters}
use Rattle.khe_base.proofs.texts.Text.push_text.Goals as goal

pub returns-clause-ok : goal.returns-clause-ok
returns-clause-ok c =
    IfOk-equal _ _ _ _ c.push_str.ensures.ok
    (ap (λ t. c.args.self.now ++ t) (ap characters c.as_str-text.ensures.value ∙ c.other.view_is))
