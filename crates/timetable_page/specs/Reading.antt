-- What a browser reads of an escaped text.
use Rattle.std.specs.Prelude.{ℕ, List, [], ◌∷◌, ◌++◌, ◌==◌, if◌then◌else◌, Bool, not, ◌||◌, Option, None, Some, codes}
use Rattle.std.specs.Str.{bytes_eq}

-- whether a character neither opens nor closes a tag or a quote: `<`, `>`, `"` and `'` do
abbrev pub is_inert : ℕ → Bool
is_inert c = not (c == 60 || c == 62 || c == 34 || c == 39)

-- the character that a reference with this name stands for; any other name stands for none of a text
abbrev pub named : List ℕ → ℕ
named name =
    if bytes_eq name (codes "amp") then 38
    else if bytes_eq name (codes "lt") then 60
    else if bytes_eq name (codes "gt") then 62
    else if bytes_eq name (codes "quot") then 34
    else if bytes_eq name (codes "#39") then 39
    else 65533

-- what a browser reads of a text, from where it is in no reference, or in one of whose name so much was read
unfoldable pub read_from : Option (List ℕ) → List ℕ → List ℕ
read_from None [] = []
read_from None (c ∷ cs) = if c == 38 then read_from (Some []) cs else c ∷ read_from None cs
read_from (Some name) [] = []
read_from (Some name) (c ∷ cs) =
    if c == 59 then named name ∷ read_from None cs else read_from (Some (name ++ c ∷ [])) cs
