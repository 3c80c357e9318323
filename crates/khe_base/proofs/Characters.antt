-- What the characters of a text's bytes are.
use Rattle.std.proofs.Common.{ℕ, ◌≡◌, [], ◌∷◌, sym, ap, ◌∙◌}
use Rattle.std.proofs.lemmas.List.{append-nil}
use Rattle.std.proofs.lemmas.Str.{IsUtf8-encode, chars_past_char, chars-nil}
use Rattle.std.specs.Char.{IsScalar}
use Rattle.std.specs.Prelude.{encode_utf8}
use Rattle.khe_base.specs.Text.{characters}

-- one character's bytes spell it
pub characters-encode : (c : ℕ) → IsScalar c → characters (encode_utf8 c) ≡ c ∷ []
characters-encode c h =
    chars_past_char (encode_utf8 c) [] c (IsUtf8-encode c h) (sym (append-nil (encode_utf8 c)))
    ∙ ap (λ r. c ∷ r) chars-nil
