-- The characters of two texts, one after the other, are those of the first and then of the second.
use Rattle.std.proofs.Common.{◌∙◌, ap, ◌++◌}
use Rattle.std.proofs.lemmas.Str.{chars-append, IsUtf8-string_bytes}
use Rattle.khe_base.specs.Text.{characters}
use Rattle.khe_base.proofs.texts.Text.push_str.Goals as goal

pub returns-clause-ok : goal.returns-clause-ok
returns-clause-ok c =
    ap characters c.in_ok-push_str.ensures.bytes
    ∙ chars-append _ _ (IsUtf8-string_bytes c.self.inside.items)
    ∙ ap (λ t. t ++ characters c.args.text.now) c.self.view_is
