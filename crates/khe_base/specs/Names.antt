-- Names, each the list of its characters, are numbered in the order in which they come. The number of a name is
-- its place; names are distinct where none comes twice.
use Rattle.std.specs.Prelude.{ℕ, List, [], ◌∷◌, ◌++◌, Bool, true, not, ◌&&◌, Option, position, if◌then◌else◌}
use Rattle.std.specs.List.{list_any}
use Rattle.std.specs.Str.{bytes_eq}

-- whether the name is among the names; `bytes_eq` compares any two lists of numbers, here of characters
abbrev pub is_among_names : List ℕ → List (List ℕ) → Bool
is_among_names name names = list_any (λ n. bytes_eq name n) names

-- the number of a name: its place among the names
abbrev pub number_of : List ℕ → List (List ℕ) → Option ℕ
number_of name names = position (λ n. bytes_eq name n) names

-- the names with one more, which goes last where it is new
abbrev pub with_name : List ℕ → List (List ℕ) → List (List ℕ)
with_name name names = if is_among_names name names then names else names ++ name ∷ []

-- whether no two of the names are equal
abbrev pub are_distinct : List (List ℕ) → Bool
are_distinct [] = true
are_distinct (name ∷ names) = not (is_among_names name names) && are_distinct names
