-- The characters are the same exactly where the bytes are.
use Rattle.std.proofs.Common.{◌≡◌, ◌∙◌, sym, string_bytes}
use Rattle.std.specs.Str.{bytes_eq}
use Rattle.std.proofs.lemmas.Str.{IsUtf8-string_bytes}
use Rattle.khe_base.proofs.TextLemmas.{bytes_eq-characters}
use Rattle.khe_base.proofs.texts.Text.is_same.Goals as goal

pub returns : goal.returns
returns c =
    let mine = c.self.inside.items in
    let others = c.other.inside.items in
    let bytes : c.eq.result ≡ bytes_eq (string_bytes mine) (string_bytes others) =
    rw (← c.as_str.ensures.value, ← c.as_str-2.ensures.value) c.eq.ensures
    in
    bytes ∙ sym (bytes_eq-characters _ _ (IsUtf8-string_bytes mine) (IsUtf8-string_bytes others))
    ∙ (λ i. bytes_eq (c.self.view_is i) (c.other.view_is i))
