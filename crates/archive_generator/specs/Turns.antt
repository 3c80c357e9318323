-- Steps that draw, made for each element of a list in turn.
use Rattle.std.specs.Prelude.{ℕ, List, [], ◌∷◌, ◌++◌}

-- what is drawn for each element
abbrev pub in_turn : {A B : Type 0} → (A → ℕ → B × ℕ) → List A → ℕ → List B × ℕ
in_turn step [] x = ([], x)
in_turn step (a ∷ more) x =
    let first = step a x in
    let rest = in_turn step more first.1 in
    (first.0 ∷ rest.0, rest.1)

-- all that is drawn, where some values are drawn for each element
abbrev pub gathered : {A B : Type 0} → (A → ℕ → List B × ℕ) → List A → ℕ → List B × ℕ
gathered step [] x = ([], x)
gathered step (a ∷ more) x =
    let first = step a x in
    let rest = gathered step more first.1 in
    (first.0 ++ rest.0, rest.1)
