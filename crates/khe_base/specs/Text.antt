-- A text is the list of its characters. Bytes are a text where they are well-formed UTF-8.
use Rattle.std.specs.Prelude.{ℕ, List, Bool, Option, Some, None, if◌then◌else◌, nat_lt}
use Rattle.std.specs.List.{list_all}
use Rattle.std.specs.Str.{chars, is_utf8}

-- the characters that these bytes spell
abbrev pub characters : List ℕ → List ℕ
characters bytes = chars bytes

-- the text that these bytes spell, where they are UTF-8
abbrev pub text_of : List ℕ → Option (List ℕ)
text_of bytes = if is_utf8 bytes then Some (characters bytes) else None

-- whether each byte is a character of ASCII
abbrev pub is_ascii : List ℕ → Bool
is_ascii bytes = list_all (λ b. nat_lt b 128) bytes
