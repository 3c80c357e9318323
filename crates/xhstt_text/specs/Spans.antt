-- The spans of a tree: what stands between the tags of its elements and the quotes of its attributes.
use Rattle.std.specs.Prelude.{ℕ, ◌≡◌, ◌⊎◌, List, [], ◌∷◌}
use Rattle.xhstt_text.specs.Forest.{AttributeInfo, Forest, empty, node}

-- the bytes are the value of one of these attributes
abbrev pub IsValueAmong : List ℕ → List AttributeInfo → Type 0
IsValueAmong span [] = ⊥
IsValueAmong span (a ∷ more) = (span ≡ a.value) ⊎ IsValueAmong span more

-- the bytes are the value of an attribute of an element
abbrev pub IsAttributeIn : List ℕ → Forest → Type 0
IsAttributeIn span empty = ⊥
IsAttributeIn span (node i kids others) = IsValueAmong span i.attributes
    ⊎ (IsAttributeIn span kids ⊎ IsAttributeIn span others)

-- the bytes stand between the tags of an element
abbrev pub IsElementIn : List ℕ → Forest → Type 0
IsElementIn span empty = ⊥
IsElementIn span (node i kids others) = (span ≡ i.value) ⊎ (IsElementIn span kids ⊎ IsElementIn span others)
