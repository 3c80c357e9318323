-- How a text of the archive is escaped on the page.
use Rattle.std.specs.Prelude.{ℕ, List, [], ◌∷◌, ◌==◌, if◌then◌else◌, codes}
use Rattle.std.specs.List.{flat_map}

-- what a reader sees of one character: characters that turn the direction of the text around them by their
-- numbers, so that they are seen and turn nothing, and each other one as it is
unfoldable pub shown_character : ℕ → List ℕ
shown_character c =
    if c == 1564 then codes "[U+061C]"
    else if c == 8206 then codes "[U+200E]"
    else if c == 8207 then codes "[U+200F]"
    else if c == 8234 then codes "[U+202A]"
    else if c == 8235 then codes "[U+202B]"
    else if c == 8236 then codes "[U+202C]"
    else if c == 8237 then codes "[U+202D]"
    else if c == 8238 then codes "[U+202E]"
    else if c == 8294 then codes "[U+2066]"
    else if c == 8295 then codes "[U+2067]"
    else if c == 8296 then codes "[U+2068]"
    else if c == 8297 then codes "[U+2069]"
    else c ∷ []

-- what a reader sees of a text
abbrev pub shown : List ℕ → List ℕ
shown text = flat_map shown_character text

-- what one character is written as: those of markup and of quotes as references
abbrev pub escaped_character : ℕ → List ℕ
escaped_character c =
    if c == 38 then codes "&amp;"
    else if c == 60 then codes "&lt;"
    else if c == 62 then codes "&gt;"
    else if c == 34 then codes "&quot;"
    else if c == 39 then codes "&#39;"
    else shown_character c

-- what a text is written as
abbrev pub escaped : List ℕ → List ℕ
escaped text = flat_map escaped_character text
