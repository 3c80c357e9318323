-- A machine that replaces references and leaves comments out, a byte at a time. It is a tool of the
-- proofs: `Unescape` says what a text stands for, and the machine is shown to give that for each text
-- of the grammar.
use Rattle.std.specs.Prelude.{ℕ, Bool, not, ◌+◌, ◌-◌, ◌*◌, ◌&&◌, ◌||◌, ◌==◌, nat_lt, nat_le, nat_eq, if◌then◌else◌, Option, Some}
use Rattle.std.specs.Prelude.{None, List, [], ◌∷◌, ◌++◌, drop, codes, encode_utf8}
use Rattle.std.specs.List.{starts_with}
use Rattle.std.specs.Option.{option_and_then, option_map_or}
use Rattle.std.specs.Str.{bytes_eq}
use Rattle.xhstt_text.specs.declared.unescaping.Part.{Part}
use Rattle.xhstt_text.specs.declared.unescaping.Part.TheVariants.{Plain, Reference, Less, Mark, MarkDash, Comment, Dash}
use Rattle.xhstt_text.specs.declared.unescaping.Part.TheVariants.{Dashes}

-- what a digit writes, up to 15
abbrev pub digit : ℕ → Option ℕ
digit c =
    if nat_le 48 c && nat_le c 57 then Some (c - 48)
    else if nat_le 97 c && nat_le c 102 then Some (c - 87)
    else if nat_le 65 c && nat_le c 70 then Some (c - 55)
    else None

-- the number that a digit makes of what was written before it, where the digit is one of this base
-- and the number is not above the last character
abbrev pub with_digit : ℕ → ℕ → ℕ → Option ℕ
with_digit base before d = if nat_lt d base && nat_le (before * base + d) 0x10FFFF then Some (before * base + d) else
    None

-- the number that digits of this base write after what was written before them
abbrev pub number_after : ℕ → ℕ → List ℕ → Option ℕ
number_after base before [] = Some before
number_after base before (c ∷ cs) = option_and_then (λ n. number_after base n cs)
    (option_and_then (with_digit base before) (digit c))

-- a character in UTF-8; nothing for a number that is none
abbrev pub character_bytes : ℕ → List ℕ
character_bytes code =
    if nat_lt code 0xD800 || (nat_le 0xE000 code && nat_le code 0x10FFFF) then encode_utf8 code else []

-- what a numbered reference stands for
abbrev pub numbered : Option ℕ → List ℕ
numbered code = option_map_or character_bytes code []

-- what a reference stands for, by what is between its `&` and its `;`: one of five names, `#x` and
-- hexadecimal digits, or `#` and decimal digits; any other stands for nothing
abbrev pub referred : List ℕ → List ℕ
referred name =
    if bytes_eq (codes "lt") name then codes "<"
    else if bytes_eq (codes "gt") name then codes ">"
    else if bytes_eq (codes "amp") name then codes "&"
    else if bytes_eq (codes "apos") name then codes "'"
    else if bytes_eq (codes "quot") name then codes "\""
    else if starts_with nat_eq name (codes "#x") then numbered (number_after 16 0 (drop 2 name))
    else if starts_with nat_eq name (codes "#") then numbered (number_after 10 0 (drop 1 name))
    else []

-- whether a byte begins neither a reference nor a comment
abbrev pub is_plain : ℕ → Bool
is_plain b = not (b == 38) && not (b == 60)

-- the part of a text that a byte leads to: a reference ends with `;`, and a comment begins with
-- `<!--` and ends with the first `-->`
abbrev pub next_part : Part → ℕ → Part
next_part Plain b = if b == 38 then Reference else if b == 60 then Less else Plain
next_part Reference b = if b == 59 then Plain else Reference
next_part Less b = Mark
next_part Mark b = MarkDash
next_part MarkDash b = Comment
next_part Comment b = if b == 45 then Dash else Comment
next_part Dash b = if b == 45 then Dashes else Comment
next_part Dashes b = if b == 62 then Plain else if b == 45 then Dashes else Comment

-- the name of the reference so far, after one more byte
abbrev pub next_name : Part → List ℕ → ℕ → List ℕ
next_name Reference name b = if b == 59 then [] else name ++ b ∷ []
next_name _ name b = name

-- what one byte adds to what the text stands for
abbrev pub added : Part → List ℕ → ℕ → List ℕ
added Plain name b = if b == 38 || b == 60 then [] else b ∷ []
added Reference name b = if b == 59 then referred name else []
added _ name b = []

-- the bytes that the rest of a text stands for, in this part of it, after this much of a
-- reference's name
abbrev pub plain_after : Part → List ℕ → List ℕ → List ℕ
plain_after part name [] = []
plain_after part name (b ∷ bs) = added part name b ++ plain_after (next_part part b) (next_name part name b) bs
