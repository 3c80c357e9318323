-- The characters of a text's bytes spell those bytes again.
use Rattle.std.proofs.Common.{◌∙◌, sym, ap, encode_utf8_all}
use Rattle.std.proofs.lemmas.Str.{encodes-chars, IsUtf8-string_bytes}
use Rattle.khe_base.proofs.texts.Text.as_str.Goals as goal

pub returns : goal.returns
returns c =
    c.as_str.ensures.value ∙ sym (encodes-chars _ (IsUtf8-string_bytes c.self.inside.items))
    ∙ ap encode_utf8_all c.self.view_is
