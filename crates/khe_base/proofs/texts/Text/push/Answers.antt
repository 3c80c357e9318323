-- The characters of a text and one more character.
use Rattle.std.proofs.Common.{◌∙◌, ap, ◌++◌, ◌∷◌, [], string_bytes}
use Rattle.std.proofs.lemmas.Str.{chars-append, IsUtf8-string_bytes}
use Rattle.khe_base.specs.Text.{characters}
use Rattle.khe_base.proofs.Characters.{characters-encode}
use Rattle.khe_base.proofs.texts.Text.push.Goals as goal

pub returns-clause-ok : goal.returns-clause-ok
returns-clause-ok c =
    ap characters c.in_ok-push.ensures.bytes
    ∙ chars-append _ _ (IsUtf8-string_bytes c.self.inside.items)
    ∙ ap (λ t. characters (string_bytes c.self.inside.items) ++ t)
    (characters-encode c.args.character c.ranges.character.0)
    ∙ ap (λ t. t ++ c.args.character ∷ []) c.self.view_is
