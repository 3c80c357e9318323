-- The characters of ASCII are its bytes.
use Rattle.std.proofs.Common.{◌++◌, ap}
use Rattle.std.proofs.lemmas.Result.{IfOk-equal}
use Rattle.khe_base.proofs.TextLemmas.{characters-is_ascii}
use Rattle.khe_base.proofs.texts.Text.push_literal.Goals as goal

pub returns-clause-ok : goal.returns-clause-ok
returns-clause-ok c =
    IfOk-equal _ _ _ _ c.push_str.ensures.ok (ap (λ t. c.args.self.now ++ t) (characters-is_ascii _ c.requires))
